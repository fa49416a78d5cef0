-- Bags that differ on one code only.
use Rattle.std.proofs.Common.{◌≡◌, ℕ, zero, suc, ◌+◌, ◌≤◌, cond, eqb, ap, ⊎_elim, arith}
use Rattle.std.proofs.lemmas.Bool.{cases_eq}
use Rattle.std.proofs.lemmas.Bool.Decides.{nat_tests}
use Rattle.selectors.specs.Bag.{below, held}
use Rattle.selectors.proofs.Sums.{below_zero, below_suc, below_none, held_zero, held_suc, held_same}

pub below_sum : (f g : ℕ → ℕ) (n : ℕ) → below (λ c. f c + g c) n ≡ below f n + below g n
below_sum f g zero = omega (arith, below_zero f, below_zero g, below_zero (λ c. f c + g c))
below_sum f g (suc n) = omega (arith, below_suc f n, below_suc g n, below_suc (λ c. f c + g c) n, below_sum f g n)

-- a bag of one code weighs no more than that code
pub below_one : (f : ℕ → ℕ) (d a n : ℕ) → ((c : ℕ) → (c ≡ d → ⊥) → f c ≡ 0) → f d ≤ a → below f n ≤ a
below_one f d a zero h k = omega (arith, below_zero f)
below_one f d a (suc n) h k = ⊎_elim
    (λ (e : n ≡ d). let here : f n ≤ a = rw e k in omega (arith, below_suc f n, here, below_none f n (λ c l. h c (λ q. omega arith))))
    (λ (e : n ≡ d → ⊥). omega (arith, below_suc f n, h n e, below_one f d a n h k))
    (cases_eq n d)

-- a code more has weight at most
pub held_one : (v w : ℕ → ℕ) (d n : ℕ) → ((c : ℕ) → (c ≡ d → ⊥) → v c ≡ w c) → held v n ≤ held w n + 1
held_one v w d zero h = omega (arith, held_zero v)
held_one v w d (suc n) h = ⊎_elim
    (λ (e : n ≡ d).
    let k : cond {A = ℕ} (eqb (v n) 0) 0 1 ≤ 1 = grind (arith, nat_tests) in
    omega (arith, held_suc v n, held_suc w n, k, held_same v w n (λ c l. h c (λ q. omega arith))))
    (λ (e : n ≡ d → ⊥).
    let k : cond {A = ℕ} (eqb (v n) 0) 0 1 ≡ cond (eqb (w n) 0) 0 1 = ap (λ (x : ℕ). cond {A = ℕ} (eqb x 0) 0 1) (h n e) in
    omega (arith, held_suc v n, held_suc w n, k, held_one v w d n h))
    (cases_eq n d)
