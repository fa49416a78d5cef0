-- Whole numbers: holding keeps their order, and tests of order. Assumes nothing.
use Rattle.std.proofs.Common.{◌≡◌, ℕ, zero, suc, ◌+◌, ◌<◌, ◌≤◌, Bool, true, false, cond, ◌&&◌, T, replicate, ℤ, pos, negsuc, ◌+ℤ◌, ◌-ℤ◌, nat_abs, ◌≤ℤ◌, count_by, sym, refl, ap, ◌∙◌, subst, ⊎_elim, arith}
use lib.Signed.{lt_z, le_z}
use Rattle.std.proofs.lemmas.Int.{ints, clamps}
use Rattle.std.proofs.lemmas.List.Sums.{sum_by-cons}
use Rattle.std.proofs.lemmas.Bool.{cases_lt, false≢true}
use Rattle.tones.specs.Kind.{nearest}

pub nearest_keeps : (low high a b : ℤ) → a ≤ℤ b → nearest low high a ≤ℤ nearest low high b
nearest_keeps low high a b h = omega (arith, ints, clamps)

pub le_from : (a b : ℤ) → le_z a b ≡ true → a ≤ℤ b
le_from a b e = record { le = subst T (sym e) tt }

pub le_from_not : (a b : ℤ) → lt_z a b ≡ false → b ≤ℤ a
le_from_not a b e = grind (arith, ints)

pub le_both : (a b : ℤ) → a ≤ℤ b → b ≤ℤ a → a ≡ b
le_both a b h k = omega (arith, ints)

-- a number that is at most z and not below it is z, and so mirrored
pub meets_from_below : (b : Bool) (v z : ℤ) → (b && lt_z v z) ≡ false → (b && le_z v z) ≡ true → (b ≡ true) × (v ≡ z)
meets_from_below true v z out into = (refl, le_both v z (le_from v z into) (le_from_not v z out))
meets_from_below false v z out into = absurd (false≢true into)

pub meets_from_above : (b : Bool) (v z : ℤ) → (b && lt_z z v) ≡ false → (b && le_z z v) ≡ true → (b ≡ true) × (v ≡ z)
meets_from_above true v z out into = (refl, le_both v z (le_from_not z v out) (le_from z v into))
meets_from_above false v z out into = absurd (false≢true into)

-- the numbers from below −b up, and from above b down
abbrev pub rising : ℕ → ℕ → ℤ
rising b n = negsuc b +ℤ pos n

abbrev pub falling : ℕ → ℕ → ℤ
falling b n = pos (suc b) -ℤ pos n

pub rising_first : (b : ℕ) (v : ℤ) → nat_abs v ≤ b → le_z v (rising b 0) ≡ false
rising_first b (pos a) h = grind (arith, ints)
rising_first b (negsuc a) h = grind (arith, ints)

pub rising_last : (b : ℕ) (v : ℤ) → nat_abs v ≤ b → le_z v (rising b (suc (b + b))) ≡ true
rising_last b (pos a) h = grind (arith, ints)
rising_last b (negsuc a) h = grind (arith, ints)

pub rising_next : (b n : ℕ) (v : ℤ) → lt_z v (rising b (suc n)) ≡ le_z v (rising b n)
rising_next b n v = grind (arith, ints)

pub falling_first : (b : ℕ) (v : ℤ) → nat_abs v ≤ b → le_z (falling b 0) v ≡ false
falling_first b (pos a) h = grind (arith, ints)
falling_first b (negsuc a) h = grind (arith, ints)

pub falling_last : (b : ℕ) (v : ℤ) → nat_abs v ≤ b → le_z (falling b (suc (b + b))) v ≡ true
falling_last b (pos a) h = grind (arith, ints)
falling_last b (negsuc a) h = grind (arith, ints)

pub falling_next : (b n : ℕ) (v : ℤ) → lt_z (falling b (suc n)) v ≡ le_z (falling b n) v
falling_next b n v = grind (arith, ints)

-- where a count comes from below k to k or more, it does so at one step
pub crossing_at : (h : ℕ → ℕ) (k n : ℕ) → h 0 < k → k ≤ h n → (i : ℕ) × (h i < k) × (k ≤ h (suc i))
crossing_at h k zero low high = absurd (omega arith)
crossing_at h k (suc n) low high = ⊎_elim (λ (l : h n < k). (n, l, high)) (λ (l : k ≤ h n). crossing_at h k n low l) (cases_lt (h n) k)

pub count_replicate : (t : ℤ → Bool) (n : ℕ) (z : ℤ) → count_by t (replicate n z) ≡ cond (t z) n 0
count_replicate t zero z = go (t z)
  where
    go : (b : Bool) → 0 ≡ cond {A = ℕ} b 0 0
    go true = refl
    go false = refl
count_replicate t (suc n) z = sum_by-cons (λ i. cond {A = ℕ} (t i) 1 0) z (replicate n z) ∙ (ap (λ k. cond {A = ℕ} (t z) 1 0 + k) (count_replicate t n z) ∙ go (t z))
  where
    go : (b : Bool) → cond {A = ℕ} b 1 0 + cond {A = ℕ} b n 0 ≡ cond {A = ℕ} b (suc n) 0
    go true = omega arith
    go false = omega arith
