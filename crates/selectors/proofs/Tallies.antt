-- The tally of a bag, from the empty one through each put. Assumes nothing.
use Rattle.std.proofs.Common.{◌≡◌, ℕ, zero, suc, ◌+◌, ◌<◌, ◌≤◌, cond, eqb, List, length, get_or, set, replicate, sym, refl, ap, ⊎_elim, arith}
use Rattle.std.proofs.lemmas.Bool.{cases_eq}
use Rattle.std.proofs.lemmas.Bool.Decides.{nat_tests}
use Rattle.std.proofs.lemmas.List.{get_or-set_same, get_or-set_other}
use Rattle.selectors.specs.Bag.{added}
use Rattle.selectors.specs.Tally.{Tally}
use Rattle.selectors.proofs.Sums.{below_none, held_none, below_same, held_same, below_added, held_added}

pub tally_none : (w : ℕ → ℕ) (R count sum : ℕ) → ((c : ℕ) → w c ≡ 0) → count ≡ 0 → sum ≡ 0 → Tally w R count sum
tally_none w R count sum h n s = (omega (arith, below_none w R (λ c _. h c)), omega arith, omega (arith, held_none w R (λ c _. h c)), omega arith)

-- v is w with a more on the code c
pub tally_added : (w v : ℕ → ℕ) (R count sum c a : ℕ) → Tally w R count sum → ((d : ℕ) → v d ≡ added w c a d) → c < R → 0 < a → count + cond (eqb (w c) 0) 1 0 ≤ 64 → sum + a ≤ 65535 → Tally v R (count + cond (eqb (w c) 0) 1 0) (sum + a)
tally_added w v R count sum c a t same lt pos few light = (
  omega (arith, below_same v (added w c a) R (λ d _. same d), below_added w c a R lt),
  light,
  omega (arith, held_same v (added w c a) R (λ d _. same d), held_added w c a R lt pos),
  few,
)

-- an array of zeros
pub getD_zeros : (n c : ℕ) → ◌≡◌ {A = ℕ} (get_or (replicate n 0) c 0) 0
getD_zeros zero c = refl
getD_zeros (suc n) zero = refl
getD_zeros (suc n) (suc c) = getD_zeros n c

-- a more on one place of an array
pub getD_added : (ws : List ℕ) (c a d : ℕ) → c < length ws → get_or (set ws c (get_or ws c 0 + a)) d 0 ≡ added (λ k. get_or ws k 0) c a d
getD_added ws c a d h = ⊎_elim
    (λ e. let here = get_or-set_same ws c (get_or ws c 0 + a) 0 h in
    let at : get_or (set ws c (get_or ws c 0 + a)) d 0 ≡ get_or (set ws c (get_or ws c 0 + a)) c 0 = ap (λ k. get_or (set ws c (get_or ws c 0 + a)) k 0) (sym e) in
    let old : get_or ws d 0 ≡ get_or ws c 0 = ap (λ k. get_or ws k 0) (sym e) in
    grind (arith, nat_tests))
    (λ n. let there = get_or-set_other ws c d (get_or ws c 0 + a) 0 (λ e. n (sym e)) in grind (arith, nat_tests))
    (cases_eq c d)
