-- A picture nowhere below another is made nowhere below it. Assumes nothing.
use Rattle.std.proofs.Common.{◌≡◌, ℕ, suc, ◌<◌, ◌≤◌, Bool, true, false, ◌&&◌, ltb, List, [], ◌∷◌, ℤ, neg_ℤ, sym, refl, ap, ◌∙◌, arith}
use Rattle.std.specs.List.{ContainsAt as Has}
use Rattle.std.proofs.ByRecursion.{All-weaker, all_has_itself}
use Rattle.std.proofs.lemmas.Bool.{ltb-true, lt-ltb}
use Rattle.planes.specs.declared.size.Size.{Size}
use Rattle.recipes.specs.declared.places.Place.{Place}
use Rattle.recipes.specs.declared.recipe.Operation.{Operation}
use Rattle.recipes.specs.declared.recipe.Operation.TheVariants.{Erosion, Dilation}
use Rattle.recipes.specs.declared.recipe.Stage.{Stage}
use Rattle.recipes.specs.Placed.{placed}
use Rattle.stages.specs.Stages.{Picture, target, rank_of, inside, code_at, rank, cleaned, made, shifted}
use Rattle.tones.specs.Kind.{Kind, Laws}
use Rattle.filters.specs.Morphology.{On, NowhereBelow}
use Rattle.filters.proofs.Masses.{mass_le}
use Rattle.filters.proofs.Windows.{inside_on, under, weighs, below_bag, total_is, picked, falls_short}

under_le : (b : Bool) (c d n : ℕ) → (b ≡ true → d ≤ c) → (b && ltb c n) ≡ true → (b && ltb d n) ≡ true
under_le true c d n h l = lt-ltb d n (omega (arith, h refl, ltb-true c n l))
under_le false c d n h l = l

-- two tones lowered or raised alike never change places
pub shifted_keeps : {T R : Type 0} (K : Kind T R) (law : Laws K) (o : Operation) (t u : T) (a : ℤ) → K.code t ≤ K.code u → K.code (shifted K o t a) ≤ K.code (shifted K o u a)
shifted_keeps K law Erosion t u a h = law.keeps t u a h
shifted_keeps K law Dilation t u a h = law.keeps t u (neg_ℤ a) h

module _ {T R : Type 0} (K : Kind T R) (law : Laws K) (size : Size) where
  -- totals and ranks do not depend on the picture
  pub rank_same : (s : Stage) (f g : Picture T) (x y : ℕ) → rank K size s f x y ≡ rank K size s g x y
  rank_same s f g x y = ap (rank_of s.operation s.element.order) (total_is K size s f x y law ∙ sym (total_is K size s g x y law))

  stage_order : (s : Stage) (f g : Picture T) → NowhereBelow K size f g → (x y : ℕ) → On size x y → K.code (cleaned K size s g x y) ≤ K.code (cleaned K size s f x y)
  stage_order s f g low x y on =
      let c : ℕ = suc (K.code (cleaned K size s f x y)) in
      let least = (picked K size s f x y law on).0 in
      let more = mass_le (weighs K size s f x y) (under K size s f x y c) (under K size s g x y c) (placed s.element) (All-weaker (Has (placed s.element)) _ (λ p _. under_le (inside K size s f x y p) (code_at K size s f x y p) (code_at K size s g x y p) c (below_at p)) (placed s.element) (all_has_itself (placed s.element))) in
      let less : K.code (cleaned K size s g x y) < c = falls_short K size s g x y law on c (omega (arith, least, more, below_bag K size s f x y c, below_bag K size s g x y c, rank_same s f g x y)) in
      omega arith
    where
      below_at : (p : Place) → inside K size s f x y p ≡ true → code_at K size s g x y p ≤ code_at K size s f x y p
      below_at p i = shifted_keeps K law s.operation _ _ p.amount (low _ _ (inside_on size (target s.operation x p.dx) (target s.operation y p.dy) i).0)

  pub keeps_order : (ss : List Stage) (f g : Picture T) → NowhereBelow K size f g → NowhereBelow K size (made K size ss f) (made K size ss g)
  unfolding made
  keeps_order [] f g h = h
  keeps_order (s ∷ ss) f g h = keeps_order ss (λ x y. cleaned K size s f x y) (λ x y. cleaned K size s g x y) (stage_order s f g h)
