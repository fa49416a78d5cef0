-- The k-th of the numbers that the places of a window give. Assumes nothing.
use Rattle.std.proofs.Common.{◌≡◌, ℕ, suc, ◌+◌, ◌<◌, ◌≤◌, Bool, true, false, cond, ◌&&◌, List, [], ◌∷◌, ◌++◌, replicate, ℤ, nat_abs, count_by, refl, ap, ap₂, ◌∙◌, arith}
use lib.Signed.{lt_z, le_z}
use Rattle.std.specs.List.{ContainsAt as Has, AllByRecursion, flat_map}
use Rattle.std.proofs.ByRecursion.{All-weaker}
use Rattle.std.proofs.lemmas.List.Sums.{sum_by-append}
use Rattle.planes.specs.declared.size.Size.{Size}
use Rattle.recipes.specs.declared.places.Place.{Place}
use Rattle.recipes.specs.declared.recipe.Operation.{Operation}
use Rattle.recipes.specs.declared.recipe.Operation.TheVariants.{Erosion, Dilation}
use Rattle.recipes.specs.declared.recipe.Stage.{Stage}
use Rattle.recipes.specs.Reaches.{reach}
use Rattle.recipes.proofs.Elements.{reach_bounds}
use Rattle.stages.specs.Stages.{Picture, weight, inside}
use Rattle.tones.specs.Kind.{Kind}
use Rattle.filters.specs.Orders.{Kth}
use Rattle.filters.specs.Morphology.{gives}
use Rattle.filters.proofs.Masses.{mass, mass_le, mass_same, mass_none, mass_less}
use Rattle.filters.proofs.Windows.{weighs}
use Rattle.filters.proofs.Numbers.{meets_from_below, meets_from_above, rising, rising_first, rising_last, rising_next, falling, falling_first, falling_last, falling_next, crossing_at, count_replicate}

gate_same : (b s t : Bool) → s ≡ t → (b && s) ≡ (b && t)
gate_same b s t e = ap (λ x. b && x) e

gate_shut : (b s : Bool) → s ≡ false → (b && s) ≡ false
gate_shut true s e = e
gate_shut false s e = refl

gate_open : (b s : Bool) → s ≡ true → b ≡ true → (b && s) ≡ true
gate_open true s e h = e
gate_open false s e h = h

share_count : (t : ℤ → Bool) (b : Bool) (n : ℕ) (z : ℤ) → count_by t (cond b (replicate n z) []) ≡ cond (b && t z) n 0
share_count t true n z = count_replicate t n z
share_count t false n z = refl

module _ {T R : Type 0} (K : Kind T R) (size : Size) (s : Stage) (f : Picture T) (x y : ℕ) where
  -- numbers that are the same place by place are given the same
  pub given_same : (l m : Place → ℤ) (ps : List Place) → AllByRecursion (λ p. l p ≡ m p) ps → flat_map (gives K size s f x y l) ps ≡ flat_map (gives K size s f x y m) ps
  given_same l m [] h = refl
  given_same l m (p ∷ ps) h =
      ap₂ (λ z zs. cond (inside K size s f x y p) (replicate (weight s.element.order p) z) [] ++ zs) h.0 (given_same l m ps h.1)

module _ {T R : Type 0} (K : Kind T R) (size : Size) (s : Stage) (f : Picture T) (x y : ℕ) (number : Place → ℤ) where
  -- the places on the card whose number passes a test
  abbrev pub passing : (ℤ → Bool) → Place → Bool
  passing t p = inside K size s f x y p && t (number p)

  -- what the numbers that pass a test weigh: how many of them are given
  pub count_given : (t : ℤ → Bool) (ps : List Place) → count_by t (flat_map (gives K size s f x y number) ps) ≡ mass (weighs K size s f x y) (passing t) ps
  unfolding mass
  count_given t [] = refl
  count_given t (p ∷ ps) =
      sum_by-append (λ i. cond {A = ℕ} (t i) 1 0) (gives K size s f x y number p) (flat_map (gives K size s f x y number) ps)
      ∙ (ap (λ k. k + count_by t (flat_map (gives K size s f x y number) ps)) (share_count t (inside K size s f x y p) (weight s.element.order p) (number p))
      ∙ ap (λ k. cond (passing t p) (weighs K size s f x y p) 0 + k) (count_given t ps))

  -- a family of tests that none passes at first and all pass at last has one at which so many come to pass
  crossing : (test : ℕ → ℤ → Bool) (n k : ℕ) (ps : List Place) → AllByRecursion (λ p. test 0 (number p) ≡ false) ps → AllByRecursion (λ p. test n (number p) ≡ true) ps → 0 < k → k ≤ mass (weighs K size s f x y) (inside K size s f x y) ps → (i : ℕ) × (mass (weighs K size s f x y) (passing (test i)) ps < k) × (k ≤ mass (weighs K size s f x y) (passing (test (suc i))) ps)
  crossing test n k ps none every some enough =
      let first : mass (weighs K size s f x y) (passing (test 0)) ps ≡ 0 = mass_none (weighs K size s f x y) (passing (test 0)) ps (All-weaker (λ p. test 0 (number p) ≡ false) _ (λ p e. gate_shut (inside K size s f x y p) _ e) ps none) in
      let last = mass_le (weighs K size s f x y) (inside K size s f x y) (passing (test n)) ps (All-weaker (λ p. test n (number p) ≡ true) _ (λ p e. gate_open (inside K size s f x y p) _ e) ps every) in
      crossing_at (λ i. mass (weighs K size s f x y) (passing (test i)) ps) k n (omega (arith, first)) (omega (arith, last))

  -- the k-th smallest
  pub smallest : (k : ℕ) (ps : List Place) → 0 < k → k ≤ mass (weighs K size s f x y) (inside K size s f x y) ps → (z : ℤ) × (mass (weighs K size s f x y) (passing (λ i. lt_z i z)) ps < k) × (k ≤ mass (weighs K size s f x y) (passing (λ i. le_z i z)) ps)
  smallest k ps some enough =
      let b : ℕ = reach number ps in
      let at = crossing (λ n i. le_z i (rising b n)) (suc (b + b)) k ps (All-weaker (λ p. nat_abs (number p) ≤ b) _ (λ p h. rising_first b (number p) h) ps (reach_bounds number ps)) (All-weaker (λ p. nat_abs (number p) ≤ b) _ (λ p h. rising_last b (number p) h) ps (reach_bounds number ps)) some enough in
      let same = mass_same (weighs K size s f x y) (passing (λ i. lt_z i (rising b (suc at.0)))) (passing (λ i. le_z i (rising b at.0))) ps (All-weaker (λ p. nat_abs (number p) ≤ b) _ (λ p h. gate_same (inside K size s f x y p) _ _ (rising_next b at.0 (number p))) ps (reach_bounds number ps)) in
      (rising b (suc at.0), omega (arith, same, at.1), at.2)

  -- the k-th largest
  pub largest : (k : ℕ) (ps : List Place) → 0 < k → k ≤ mass (weighs K size s f x y) (inside K size s f x y) ps → (z : ℤ) × (mass (weighs K size s f x y) (passing (λ i. lt_z z i)) ps < k) × (k ≤ mass (weighs K size s f x y) (passing (λ i. le_z z i)) ps)
  largest k ps some enough =
      let b : ℕ = reach number ps in
      let at = crossing (λ n i. le_z (falling b n) i) (suc (b + b)) k ps (All-weaker (λ p. nat_abs (number p) ≤ b) _ (λ p h. falling_first b (number p) h) ps (reach_bounds number ps)) (All-weaker (λ p. nat_abs (number p) ≤ b) _ (λ p h. falling_last b (number p) h) ps (reach_bounds number ps)) some enough in
      let same = mass_same (weighs K size s f x y) (passing (λ i. lt_z (falling b (suc at.0)) i)) (passing (λ i. le_z (falling b at.0) i)) ps (All-weaker (λ p. nat_abs (number p) ≤ b) _ (λ p h. gate_same (inside K size s f x y p) _ _ (falling_next b at.0 (number p))) ps (reach_bounds number ps)) in
      (falling b (suc at.0), omega (arith, same, at.1), at.2)

  -- the k-th of them is the number of a place
  pub kth_given : (o : Operation) (k : ℕ) (ps : List Place) (z : ℤ) → Kth o k (flat_map (gives K size s f x y number) ps) z → (p : Place) × Has ps p × (number p ≡ z)
  kth_given Erosion k ps z kth =
      let found = mass_less (weighs K size s f x y) (passing (λ i. lt_z i z)) (passing (λ i. le_z i z)) ps (omega (arith, kth.0, kth.1, count_given (λ i. lt_z i z) ps, count_given (λ i. le_z i z) ps)) in
      (found.0, found.1, (meets_from_below (inside K size s f x y found.0) (number found.0) z found.2 found.3).1)
  kth_given Dilation k ps z kth =
      let found = mass_less (weighs K size s f x y) (passing (λ i. lt_z z i)) (passing (λ i. le_z z i)) ps (omega (arith, kth.0, kth.1, count_given (λ i. lt_z z i) ps, count_given (λ i. le_z z i) ps)) in
      (found.0, found.1, (meets_from_above (inside K size s f x y found.0) (number found.0) z found.2 found.3).1)
