-- Marks are eroded and dilated by counting. Assumes nothing.
use Rattle.std.proofs.Common.{◌≡◌, ℕ, ◌+◌, ◌<◌, ◌≤◌, ◌↔◌, refl, ap, ⊎_elim, arith}
use Rattle.std.proofs.lemmas.Bool.{cases_lt}
use Rattle.planes.specs.declared.size.Size.{Size}
use Rattle.recipes.specs.declared.recipe.Stage.{Stage}
use Rattle.recipes.specs.Recipes.{eroding, dilating}
use Rattle.selectors.specs.Bag.{below}
use Rattle.selectors.proofs.Sums.{below_suc}
use Rattle.stages.specs.Stages.{Picture, bag, rank, cleaned}
use Rattle.stages.proofs.Cleaning.{total_least}
use Rattle.tones.specs.declared.marks.Mark.{Mark}
use Rattle.tones.specs.declared.marks.Mark.TheVariants.{No, Yes}
use Rattle.tones.specs.MarkLaws.{mark_laws}
use Rattle.tones.specs.Marks.{marks, mark_code}
use Rattle.filters.specs.Morphology.{On, MarksCount, yes_weight, all_weight}
use Rattle.filters.proofs.Windows.{reaches, falls_short}

pub is_yes : (m : Mark) → 1 ≤ mark_code m → m ≡ Yes
is_yes No h = absurd (omega arith)
is_yes Yes h = refl

pub is_no : (m : Mark) → mark_code m < 1 → m ≡ No
is_no No h = refl
is_no Yes h = absurd (omega arith)

-- yes exactly where what weighs less than yes falls short of the rank
yes_exactly : (size : Size) (s : Stage) (f : Picture Mark) (x y : ℕ) → On size x y → (cleaned marks size s f x y ≡ Yes) ↔ (below (bag marks size s f x y) 1 < rank marks size s f x y)
yes_exactly size s f x y on = (
  λ e. ⊎_elim (λ l. l) (λ (l : rank marks size s f x y ≤ below (bag marks size s f x y) 1). absurd (omega (arith, falls_short marks size s f x y mark_laws on 1 l, ap mark_code e))) (cases_lt (below (bag marks size s f x y) 1) (rank marks size s f x y)),
  λ l. is_yes (cleaned marks size s f x y) (reaches marks size s f x y mark_laws on 1 l),
)

pub marks_count : MarksCount
marks_count size e f x y on = (
  (λ h. omega (arith, eroded.0 h, parts_eroded, least_eroded), λ h. eroded.1 (omega (arith, parts_eroded, least_eroded))),
  (λ h. omega (arith, dilated.0 h, parts_dilated, least_dilated), λ h. dilated.1 (omega (arith, parts_dilated, least_dilated))),
)
  where
    eroded : (cleaned marks size (eroding e) f x y ≡ Yes) ↔ (below (bag marks size (eroding e) f x y) 1 < rank marks size (eroding e) f x y)
    eroded = yes_exactly size (eroding e) f x y on

    dilated : (cleaned marks size (dilating e) f x y ≡ Yes) ↔ (below (bag marks size (dilating e) f x y) 1 < rank marks size (dilating e) f x y)
    dilated = yes_exactly size (dilating e) f x y on

    parts_eroded : all_weight size f x y (eroding e) ≡ below (bag marks size (eroding e) f x y) 1 + yes_weight size f x y (eroding e)
    parts_eroded = below_suc (bag marks size (eroding e) f x y) 1

    parts_dilated : all_weight size f x y (dilating e) ≡ below (bag marks size (dilating e) f x y) 1 + yes_weight size f x y (dilating e)
    parts_dilated = below_suc (bag marks size (dilating e) f x y) 1

    least_eroded : e.order ≤ all_weight size f x y (eroding e)
    least_eroded = total_least marks mark_laws size (eroding e) f x y on.0 on.1

    least_dilated : e.order ≤ all_weight size f x y (dilating e)
    least_dilated = total_least marks mark_laws size (dilating e) f x y on.0 on.1
