-- What the items of a list that pass a test weigh together. Assumes nothing.
use Rattle.std.proofs.Common.{◌≡◌, ℕ, ◌+◌, ◌<◌, ◌≤◌, Bool, true, false, cond, not, ◌&&◌, List, [], ◌∷◌, refl, ⊎_elim, le_refl, arith}
use Rattle.std.specs.List.{ContainsAt as Has, AllByRecursion}
use Rattle.std.proofs.ByRecursion.{has_append_right}
use Rattle.std.proofs.lemmas.Bool.{cases_lt}

unfoldable pub mass : {X : Type 0} → (X → ℕ) → (X → Bool) → List X → ℕ
mass v A [] = 0
mass v A (p ∷ ps) = cond (A p) (v p) 0 + mass v A ps

share_le : (a b : Bool) (n : ℕ) → (a ≡ true → b ≡ true) → cond {A = ℕ} a n 0 ≤ cond {A = ℕ} b n 0
share_le true b n h = rw (h refl) (le_refl n)
share_le false b n h = omega arith

share_split : (a t : Bool) (n : ℕ) → cond {A = ℕ} (a && t) n 0 + cond {A = ℕ} (a && not t) n 0 ≡ cond a n 0
share_split true true n = omega arith
share_split true false n = omega arith
share_split false t n = omega arith

share_less : (a b : Bool) (n : ℕ) → cond {A = ℕ} a n 0 < cond {A = ℕ} b n 0 → (a ≡ false) × (b ≡ true)
share_less true true n h = absurd (omega arith)
share_less true false n h = absurd (omega arith)
share_less false true n h = (refl, refl)
share_less false false n h = absurd (omega arith)

module _ {X : Type 0} (v : X → ℕ) where
  -- a weaker test passes more
  pub mass_le : (A B : X → Bool) (ps : List X) → AllByRecursion (λ p. A p ≡ true → B p ≡ true) ps → mass v A ps ≤ mass v B ps
  unfolding mass
  mass_le A B [] h = omega arith
  mass_le A B (p ∷ ps) h = omega (arith, share_le (A p) (B p) (v p) h.0, mass_le A B ps h.1)

  -- the same tests, the same weight
  pub mass_same : (A B : X → Bool) (ps : List X) → AllByRecursion (λ p. A p ≡ B p) ps → mass v A ps ≡ mass v B ps
  unfolding mass
  mass_same A B [] h = refl
  mass_same A B (p ∷ ps) h = rw (h.0, mass_same A B ps h.1)

  pub mass_none : (A : X → Bool) (ps : List X) → AllByRecursion (λ p. A p ≡ false) ps → mass v A ps ≡ 0
  unfolding mass
  mass_none A [] h = refl
  mass_none A (p ∷ ps) h = rw (h.0, mass_none A ps h.1) (omega arith)

  -- what passes a further test and what does not make the whole
  pub mass_split : (A t : X → Bool) (ps : List X) → mass v (λ p. A p && t p) ps + mass v (λ p. A p && not (t p)) ps ≡ mass v A ps
  unfolding mass
  mass_split A t [] = omega arith
  mass_split A t (p ∷ ps) = omega (arith, share_split (A p) (t p) (v p), mass_split A t ps)

  -- where a test passes less, an item passes only the other
  pub mass_less : (A B : X → Bool) (ps : List X) → mass v A ps < mass v B ps → (p : X) × Has ps p × (A p ≡ false) × (B p ≡ true)
  unfolding mass
  mass_less A B [] h = absurd (omega arith)
  mass_less A B (p ∷ ps) h = ⊎_elim
      (λ (l : cond {A = ℕ} (A p) (v p) 0 < cond {A = ℕ} (B p) (v p) 0). let s = share_less (A p) (B p) (v p) l in (p, (0, omega arith, λ d. refl), s.0, s.1))
      (λ (l : cond {A = ℕ} (B p) (v p) 0 ≤ cond {A = ℕ} (A p) (v p) 0). let r = mass_less A B ps (omega arith) in (r.0, has_append_right (p ∷ []) ps r.0 r.1, r.2, r.3))
      (cases_lt (cond (A p) (v p) 0) (cond (B p) (v p) 0))
