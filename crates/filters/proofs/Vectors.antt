-- Where no amount lowers or raises, the result is one of the tones read. Assumes nothing.
use Rattle.std.proofs.Common.{◌≡◌, ℕ, zero, suc, ◌<◌, Bool, true, false, ◌&&◌, ltb, ℤ, pos, negsuc, neg_ℤ, refl, ◌∙◌, arith}
use Rattle.std.specs.List.{ContainsAt as Has}
use Rattle.std.proofs.lemmas.Bool.{ltb-true, ltb-false, false≢true}
use Rattle.planes.specs.declared.size.Size.{Size}
use Rattle.recipes.specs.declared.places.Place.{Place}
use Rattle.recipes.specs.declared.recipe.Operation.{Operation}
use Rattle.recipes.specs.declared.recipe.Operation.TheVariants.{Erosion, Dilation}
use Rattle.recipes.specs.declared.recipe.Stage.{Stage}
use Rattle.recipes.specs.Placed.{placed}
use Rattle.selectors.proofs.Ranks.{ranked_below}
use Rattle.stages.specs.Stages.{Picture, inside, read, code_at, bag, rank, cleaned, shifted}
use Rattle.stages.proofs.Cleaning.{rank_some}
use Rattle.tones.specs.Kind.{Kind, Laws}
use Rattle.filters.specs.Morphology.{On, KeepsVector}
use Rattle.filters.proofs.Masses.{mass, mass_less}
use Rattle.filters.proofs.Windows.{same_tone, under, weighs, below_bag, picked}

same_code : (b : Bool) (c d : ℕ) → (b && ltb d c) ≡ false → (b && ltb d (suc c)) ≡ true → (b ≡ true) × (d ≡ c)
same_code true c d out in' = (refl, omega (arith, ltb-false d c out, ltb-true d (suc c) in'))
same_code false c d out in' = absurd (false≢true in')

module _ {T R : Type 0} (K : Kind T R) (law : Laws K) where
  still : K.span ≡ 0 → (t : T) (a : ℤ) → K.lowered t a ≡ t
  still flat t (pos zero) = law.still t
  still flat t (pos (suc n)) = law.beyond t (pos (suc n)) (omega arith)
  still flat t (negsuc n) = law.beyond t (negsuc n) (omega arith)

  shifted_flat : K.span ≡ 0 → (o : Operation) (t : T) (a : ℤ) → shifted K o t a ≡ t
  shifted_flat flat Erosion t a = still flat t a
  shifted_flat flat Dilation t a = still flat t (neg_ℤ a)

  -- the result is the tone of a place, lowered or raised
  module _ (size : Size) (s : Stage) (f : Picture T) (x y : ℕ) where
    tone_of : (p : Place) → Has (placed s.element) p → under K size s f x y (K.code (cleaned K size s f x y)) p ≡ false → under K size s f x y (suc (K.code (cleaned K size s f x y))) p ≡ true → (p : Place) × Has (placed s.element) p × (inside K size s f x y p ≡ true) × (cleaned K size s f x y ≡ shifted K s.operation (read K size s f x y p) p.amount)
    tone_of p has out into =
        let at = same_code (inside K size s f x y p) (K.code (cleaned K size s f x y)) (code_at K size s f x y p) out into in
        (p, has, at.0, same_tone K law (cleaned K size s f x y) (shifted K s.operation (read K size s f x y p) p.amount) at.1)

    crossing : On size x y → mass (weighs K size s f x y) (under K size s f x y (K.code (cleaned K size s f x y))) (placed s.element) < mass (weighs K size s f x y) (under K size s f x y (suc (K.code (cleaned K size s f x y)))) (placed s.element)
    crossing on =
        let short = ranked_below (bag K size s f x y) (rank K size s f x y) (K.code (cleaned K size s f x y)) (rank_some K law size s f x y on.0 on.1) (picked K size s f x y law on) in
        omega (arith, short, (picked K size s f x y law on).0, below_bag K size s f x y (K.code (cleaned K size s f x y)), below_bag K size s f x y (suc (K.code (cleaned K size s f x y))))

    pub picked_place : On size x y → (p : Place) × Has (placed s.element) p × (inside K size s f x y p ≡ true) × (cleaned K size s f x y ≡ shifted K s.operation (read K size s f x y p) p.amount)
    picked_place on =
        let found = mass_less (weighs K size s f x y) (under K size s f x y (K.code (cleaned K size s f x y))) (under K size s f x y (suc (K.code (cleaned K size s f x y)))) (placed s.element) (crossing on) in
        tone_of found.0 found.1 found.2 found.3

  pub keeps_vector : KeepsVector K
  keeps_vector flat size s f x y on =
      let h = picked_place size s f x y on in
      (h.0, h.1, h.2, h.3 ∙ shifted_flat flat s.operation _ h.0.amount)
