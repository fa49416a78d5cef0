-- Laws of windows: what places add together, how much and on how many codes.
use Rattle.std.proofs.Common.{◌≡◌, ℕ, ◌+◌, ◌*◌, ◌<◌, ◌≤◌, true, List, [], ◌∷◌, length, get_or, take, ℤ, pos, negsuc, nat_abs, sum_by, sym, refl, ap, ◌∙◌, subst, arith}
use Rattle.std.specs.List.{ContainsAt as Has, AllByRecursion}
use Rattle.std.proofs.lemmas.List.Sums.{sum_by-cons, sum_by_more, get_or-le-sum_by}
use Rattle.std.proofs.ByRecursion.{sum_by_le}
use Rattle.std.proofs.lemmas.Bool.{ltb-true, eq-eqb}
use Rattle.std.proofs.lemmas.Bool.Decides.{nat_tests}
use Rattle.planes.specs.declared.size.Size.{Size}
use Rattle.recipes.specs.declared.element.Element.{Element}
use Rattle.recipes.specs.declared.places.Place.{Place}
use Rattle.recipes.specs.declared.recipe.Stage.{Stage}
use Rattle.recipes.proofs.Elements.{order_few}
use Rattle.selectors.specs.Bag.{below, held}
use Rattle.selectors.proofs.Sums.{held_none, below_none}
use Rattle.tones.specs.Kind.{Kind, Laws}
use Rattle.stages.specs.Stages.{Picture, target, on_card, weight, inside, code_at, adds, window, bag, cleaned, rank_of, ranked_code}
use Rattle.stages.proofs.Sums.{below_sum, below_one, held_one}

-- a column that is on the card is below the width
pub on_card_less : (n : ℕ) (z : ℤ) → on_card n z ≡ true → nat_abs z < n
on_card_less n (pos x) h = ltb-true x n h
on_card_less n (negsuc x) h = absurd (let q : ◌≡◌ {A = ℕ} 0 1 = cc in omega arith)

pub weight_positive : (k : ℕ) (p : Place) → 0 < k → 0 < weight k p
weight_positive k p h = grind (arith, nat_tests)

pub weight_most : (k m : ℕ) (p : Place) → k ≤ m → 1 ≤ m → weight k p ≤ m
weight_most k m p h j = grind (arith, nat_tests)

module _ {T R : Type 0} (K : Kind T R) (size : Size) (s : Stage) (f : Picture T) (x y : ℕ) where
  -- a place adds its weight, or nothing
  pub adds_most : (p : Place) (c : ℕ) → adds K size s f x y p c ≤ weight s.element.order p
  adds_most p c = grind (arith, nat_tests)

  -- a place adds to one code only
  pub adds_other : (p : Place) (c : ℕ) → (c ≡ code_at K size s f x y p → ⊥) → adds K size s f x y p c ≡ 0
  adds_other p c h = grind (arith, nat_tests)

  -- a place on the card adds its weight to its code
  pub adds_own : (p : Place) → inside K size s f x y p ≡ true → adds K size s f x y p (code_at K size s f x y p) ≡ weight s.element.order p
  adds_own p h = rw (h, eq-eqb (code_at K size s f x y p) (code_at K size s f x y p) refl)

  pub window_sum : (ps : List Place) (c : ℕ) → window K size s f x y ps c ≡ sum_by (λ p. adds K size s f x y p c) ps
  unfolding window
  window_sum [] c = refl
  window_sum (p ∷ ps) c = ap (λ n. adds K size s f x y p c + n) (window_sum ps c) ∙ sym (sum_by-cons (λ q. adds K size s f x y q c) p ps)

  -- a loop's step
  pub window_more : (ps : List Place) (i c : ℕ) (d : Place) → i < length ps → window K size s f x y (take (i + 1) ps) c ≡ window K size s f x y (take i ps) c + adds K size s f x y (get_or ps i d) c
  window_more ps i c d h = omega (arith, window_sum (take (i + 1) ps) c, window_sum (take i ps) c, sum_by_more (λ p. adds K size s f x y p c) ps i d h)

  pub window_at : (ps : List Place) (i c : ℕ) (d : Place) → i < length ps → adds K size s f x y (get_or ps i d) c ≤ window K size s f x y ps c
  window_at ps i c d h = omega (arith, window_sum ps c, get_or-le-sum_by (λ p. adds K size s f x y p c) ps i d h)

  pub window_has : (ps : List Place) (p : Place) (c : ℕ) → Has ps p → adds K size s f x y p c ≤ window K size s f x y ps c
  window_has ps p c h = subst (λ q. adds K size s f x y q c ≤ window K size s f x y ps c) (h.2 p) (window_at ps h.0 c p h.1)

  -- all codes together weigh no more than the places
  pub window_most : (ps : List Place) (n : ℕ) → below (window K size s f x y ps) n ≤ sum_by (weight s.element.order) ps
  unfolding window
  window_most [] n = omega (arith, below_none (window K size s f x y []) n (λ c h. refl))
  window_most (p ∷ ps) n =
      let one = below_one (adds K size s f x y p) (code_at K size s f x y p) (weight s.element.order p) n (λ c h. adds_other p c h) (adds_most p (code_at K size s f x y p)) in
      omega (arith, below_sum (adds K size s f x y p) (window K size s f x y ps) n, one, window_most ps n, sum_by-cons (weight s.element.order) p ps)

  -- no more codes have weight than there are places
  pub window_few : (ps : List Place) (n : ℕ) → held (window K size s f x y ps) n ≤ length ps
  unfolding window
  window_few [] n = omega (arith, held_none (window K size s f x y []) n (λ c h. refl))
  window_few (p ∷ ps) n =
      let one = held_one (window K size s f x y (p ∷ ps)) (window K size s f x y ps) (code_at K size s f x y p) n (λ c h. omega (arith, adds_other p c h)) in
      omega (arith, one, window_few ps n)

  -- only codes of the kind have weight
  pub window_within : Laws K → (ps : List Place) (c : ℕ) → K.count ≤ c → window K size s f x y ps c ≡ 0
  unfolding window
  window_within law [] c h = refl
  window_within law (p ∷ ps) c h =
      omega (arith, window_within law ps c h, adds_other p c (λ e. omega (arith, law.within (Rattle.stages.specs.Stages.shifted K s.operation (Rattle.stages.specs.Stages.read K size s f x y p) p.amount))))

-- an element's places weigh at most 24 each
pub weights_most : (e : Element) (ps : List Place) → sum_by (weight e.order) ps ≤ length ps * 24
weights_most e ps = sum_by_le (weight e.order) 24 ps (each ps)
  where
    each : (qs : List Place) → AllByRecursion (λ p. weight e.order p ≤ 24) qs
    each [] = tt
    each (q ∷ qs) = (weight_most e.order 24 q (order_few e) (omega arith), each qs)
