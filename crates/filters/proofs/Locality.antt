-- A pixel of a stage depends only on the pixels within the element's reach. Assumes nothing.
use Rattle.std.proofs.Common.{◌≡◌, ℕ, ◌≤◌, Bool, true, false, cond, ◌&&◌, eqb, List, [], ◌∷◌, ℤ, pos, negsuc, nat_abs, refl, ap, arith}
use mathlib.Core.Path.{fun_ext}
use Rattle.std.specs.List.{ContainsAt as Has, AllByRecursion}
use Rattle.std.proofs.ByRecursion.{All-weaker, all-has, all_has_itself}
use Rattle.std.proofs.lemmas.Int.{ints}
use Rattle.planes.specs.declared.size.Size.{Size}
use Rattle.recipes.specs.declared.places.Place.{Place}
use Rattle.recipes.specs.declared.recipe.Operation.{Operation}
use Rattle.recipes.specs.declared.recipe.Operation.TheVariants.{Erosion, Dilation}
use Rattle.recipes.specs.declared.recipe.Stage.{Stage}
use Rattle.recipes.specs.Extents.{Within}
use Rattle.recipes.specs.Placed.{placed}
use Rattle.recipes.specs.Reaches.{reach}
use Rattle.recipes.proofs.Elements.{reach_bounds}
use Rattle.selectors.specs.Bag.{below}
use Rattle.stages.specs.Stages.{Picture, target, weight, rank_of, inside, read, code_at, window, bag, ranked_code, cleaned, shifted}
use Rattle.tones.specs.Kind.{Kind}
use Rattle.filters.specs.Morphology.{Local, SameNear}
use Rattle.filters.proofs.Windows.{inside_on}

target_within : (o : Operation) (x u r : ℕ) (d : ℤ) → nat_abs d ≤ r → pos u ≡ target o x d → Within r x u
target_within Erosion x u r (pos a) h e = record { below = omega (arith, ints); above = omega (arith, ints) }
target_within Erosion x u r (negsuc a) h e = record { below = omega (arith, ints); above = omega (arith, ints) }
target_within Dilation x u r (pos a) h e = record { below = omega (arith, ints); above = omega (arith, ints) }
target_within Dilation x u r (negsuc a) h e = record { below = omega (arith, ints); above = omega (arith, ints) }

share_same : (b : Bool) (c d e n : ℕ) → (b ≡ true → c ≡ d) → cond {A = ℕ} (b && eqb c e) n 0 ≡ cond (b && eqb d e) n 0
share_same true c d e n h = ap (λ k. cond {A = ℕ} (eqb k e) n 0) (h refl)
share_same false c d e n h = refl

module _ {T R : Type 0} (K : Kind T R) (size : Size) (s : Stage) (f g : Picture T) (x y : ℕ) where
  -- pictures that are read alike have the same window
  pub window_same : (ps : List Place) → AllByRecursion (λ p. inside K size s f x y p ≡ true → read K size s f x y p ≡ read K size s g x y p) ps → (c : ℕ) → window K size s f x y ps c ≡ window K size s g x y ps c
  unfolding window
  window_same [] h c = refl
  window_same (p ∷ ps) h c =
      let e = share_same (inside K size s f x y p) (code_at K size s f x y p) (code_at K size s g x y p) c (weight s.element.order p) (λ i. ap (λ t. K.code (shifted K s.operation t p.amount)) (h.0 i)) in
      let r = window_same ps h.1 c in
      omega (arith, e, r)

  -- so do pictures that agree within the element's reach
  pub bag_local : SameNear K size s.element x y f g → (c : ℕ) → bag K size s f x y c ≡ bag K size s g x y c
  bag_local agree = window_same ps (All-weaker (Has ps) _ alike ps (all_has_itself ps))
    where
      ps : List Place
      ps = placed s.element

      alike : (p : Place) → Has ps p → inside K size s f x y p ≡ true → read K size s f x y p ≡ read K size s g x y p
      alike p h i =
          let at = inside_on size (target s.operation x p.dx) (target s.operation y p.dy) i in
          agree _ _ at.0
          (target_within s.operation x _ _ p.dx (all-has (λ q. nat_abs q.dx ≤ reach (λ q. q.dx) ps) ps p (reach_bounds (λ q. q.dx) ps) h) at.1)
          (target_within s.operation y _ _ p.dy (all-has (λ q. nat_abs q.dy ≤ reach (λ q. q.dy) ps) ps p (reach_bounds (λ q. q.dy) ps) h) at.2)

pub local : {T R : Type 0} (K : Kind T R) → Local K
unfolding cleaned
local K size s f g x y agree =
    ap (λ (w : ℕ → ℕ). K.tone (ranked_code w (rank_of s.operation s.element.order (below w K.count)) K.count))
    (fun_ext (bag_local K size s f g x y agree))
