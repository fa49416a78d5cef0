-- A step makes what its letter says, and a flat one does so on the numbers themselves. Assumes nothing.
use Rattle.std.proofs.Common.{◌≡◌, ℕ, ◌≤◌, List, [], ◌∷◌, ◌++◌, ℤ, nat_abs, ◌≤ℤ◌, sym, refl, ◌∙◌, subst, arith}
use Rattle.std.specs.List.{AllByRecursion}
use Rattle.std.proofs.ByRecursion.{All-weaker}
use Rattle.std.proofs.lemmas.Int.{ints, clamps}
use Rattle.planes.specs.declared.size.Size.{Size}
use Rattle.recipes.specs.declared.draft.Letter.{Letter}
use Rattle.recipes.specs.declared.draft.Letter.TheVariants as letter
use Rattle.recipes.specs.declared.element.Element.{Element}
use Rattle.recipes.specs.declared.recipe.Operation.{Operation}
use Rattle.recipes.specs.declared.recipe.Operation.TheVariants.{Erosion, Dilation}
use Rattle.recipes.specs.declared.recipe.Stage.{Stage}
use Rattle.recipes.specs.Placed.{placed}
use Rattle.recipes.specs.Recipes.{eroding, dilating, stages_by, stages_of}
use Rattle.stages.specs.Stages.{Picture, read, cleaned, made}
use Rattle.tones.specs.Kind.{Kind, Laws, nearest}
use Rattle.tones.specs.Whole.{WholeNumbers}
use Rattle.filters.specs.Orders.{Kth}
use Rattle.filters.specs.Morphology.{On, moved, number_read, difference, numbers, differences}
use Rattle.filters.specs.Steps.{IsMade, Steps, FlatSteps, StepsInTurn}
use Rattle.filters.proofs.Choices.{given_same, kth_given}
use Rattle.filters.proofs.Cuts.{amounts, nought}
use Rattle.filters.proofs.Softness.{soft_morphology, stage_law}

-- what a stage makes of a whole picture
abbrev whole_picture : {T R : Type 0} → Kind T R → Size → Stage → Picture T → Picture T
whole_picture K size s f x y = cleaned K size s f x y

-- what holds of both operations holds of what each letter makes
module _ {T R : Type 0} (K : Kind T R) (size : Size) (e : Element) (Eroded Dilated : Picture T → Picture T → Type 0) where
  made_by :
      ((f : Picture T) → Eroded f (whole_picture K size (eroding e) f))
      → ((f : Picture T) → Dilated f (whole_picture K size (dilating e) f))
      → (l : Letter) (f : Picture T)
      → IsMade Eroded Dilated l f (made K size (stages_by l e) f)
  unfolding made
  made_by erodes dilates letter.Erosion f = erodes f
  made_by erodes dilates letter.Dilation f = dilates f
  made_by erodes dilates letter.Opening f =
      let g : Picture T = whole_picture K size (eroding e) f in
      (g, erodes f, dilates g)
  made_by erodes dilates letter.Closing f =
      let g : Picture T = whole_picture K size (dilating e) f in
      (g, dilates f, erodes g)

pub steps : {T R : Type 0} (K : Kind T R) → Laws K → Steps K
steps K law low high value whole size l e f fit =
    made_by K size e _ _
    (λ f x y on. soft_morphology K law low high value whole size (eroding e) f x y on fit)
    (λ f x y on. soft_morphology K law low high value whole size (dilating e) f x y on fit)
    l f

moved_none : (o : Operation) (v a : ℤ) → nat_abs a ≤ 0 → moved o v a ≡ v
moved_none Erosion v a h = let e = nought a h in omega (arith, ints)
moved_none Dilation v a h = let e = nought a h in omega (arith, ints)

nearest_within : (low high z : ℤ) → low ≤ℤ z → z ≤ℤ high → nearest low high z ≡ z
nearest_within low high z above below = omega (arith, ints, clamps)

module _ {T R : Type 0} (K : Kind T R) (law : Laws K) (low high : ℤ) (value : T → ℤ) (whole : WholeNumbers K low high value) (size : Size) (s : Stage) (f : Picture T) (x y : ℕ) (flat : AllByRecursion (λ p. nat_abs p.amount ≤ 0) (placed s.element)) where
  -- there are no differences
  numbers_themselves : differences K size s f x y value ≡ numbers K size s f x y value
  numbers_themselves =
      given_same K size s f x y (difference K size s f x y value) (number_read K size s f x y value) (placed s.element)
      (All-weaker (λ p. nat_abs p.amount ≤ 0) _ (λ p h. moved_none s.operation (number_read K size s f x y value p) p.amount h) (placed s.element) flat)

  -- one that is chosen was read, so holding does nothing
  unheld : (o : Operation) (k : ℕ) (z : ℤ) → Kth o k (numbers K size s f x y value) z → nearest low high z ≡ z
  unheld o k z kth =
      let found = kth_given K size s f x y (number_read K size s f x y value) o k (placed s.element) z kth in
      let limits = whole.limits (read K size s f x y found.0) in
      nearest_within low high z (subst (λ n. low ≤ℤ n) found.2 limits.0) (subst (λ n. n ≤ℤ high) found.2 limits.1)

  flat_law : On size x y → (o : Operation) → s.operation ≡ o → Kth o s.element.order (numbers K size s f x y value) (value (cleaned K size s f x y))
  flat_law on o is =
      let near = All-weaker (λ p. nat_abs p.amount ≤ 0) (λ p. nat_abs p.amount ≤ K.span) (λ p h. omega arith) (placed s.element) flat in
      let at = stage_law K low high value whole law size s f x y on near o is in
      let kth = subst (λ l. Kth o s.element.order l at.0) numbers_themselves at.1 in
      subst (Kth o s.element.order (numbers K size s f x y value)) (sym (at.2 ∙ unheld o s.element.order at.0 kth)) kth

pub flat_steps : {T R : Type 0} (K : Kind T R) → Laws K → FlatSteps K
flat_steps K law low high value whole size l e f flat =
    made_by K size e _ _
    (λ f x y on. flat_law K law low high value whole size (eroding e) f x y (amounts 0 (placed e) flat) on Erosion refl)
    (λ f x y on. flat_law K law low high value whole size (dilating e) f x y (amounts 0 (placed e) flat) on Dilation refl)
    l f

-- stages after others make what they make of what those made
made_append : {T R : Type 0} (K : Kind T R) (size : Size) (ss ts : List Stage) (f : Picture T) → made K size (ss ++ ts) f ≡ made K size ts (made K size ss f)
unfolding made
made_append K size [] ts f = refl
made_append K size (s ∷ ss) ts f = made_append K size ss ts (whole_picture K size s f)

pub in_turn : {T R : Type 0} (K : Kind T R) → StepsInTurn K
in_turn K size s ss f = made_append K size (stages_by s.letter s.element) (stages_of ss) f
