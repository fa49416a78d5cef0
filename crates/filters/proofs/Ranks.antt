-- The ranked code beside a threshold, and a bag of one code. Assumes nothing.
use Rattle.std.proofs.Common.{◌≡◌, ℕ, zero, suc, ◌+◌, ◌<◌, ◌≤◌, Bool, true, false, cond, ◌&&◌, eqb, ltb, refl, ap, ◌∙◌, ⊎_elim, arith}
use Rattle.std.proofs.lemmas.Bool.{cases_lt}
use Rattle.std.proofs.lemmas.Bool.Decides.{nat_tests}
use Rattle.selectors.specs.Bag.{below, Ranked}
use Rattle.selectors.proofs.Sums.{below_zero, below_suc, below_mono}
use Rattle.selectors.proofs.Ranks.{ranked_below}

-- the ranked code is below a threshold just if the codes below it reach the rank
pub ranked_under : (w : ℕ → ℕ) (r c t : ℕ) → 0 < r → Ranked w r c → r ≤ below w t → c < t
ranked_under w r c t pos h le = ⊎_elim (λ l. l) (λ (l : t ≤ c). absurd (omega (arith, ranked_below w r c pos h, below_mono w t c l))) (cases_lt c t)

pub ranked_over : (w : ℕ → ℕ) (r c t : ℕ) → Ranked w r c → c < t → r ≤ below w t
ranked_over w r c t h l = omega (arith, h.0, below_mono w (suc c) t l)

-- a bag of one code
pub below_single : (b : Bool) (c m n : ℕ) → below (λ d. cond (b && eqb c d) m 0) n ≡ cond (b && ltb c n) m 0
below_single b c m zero = below_zero (λ d. cond (b && eqb c d) m 0) ∙ at_zero b
  where
    at_zero : (b : Bool) → 0 ≡ cond {A = ℕ} (b && ltb c 0) m 0
    at_zero true = grind (arith, nat_tests)
    at_zero false = refl
below_single b c m (suc n) = below_suc (λ d. cond (b && eqb c d) m 0) n ∙ (ap (λ k. k + cond (b && eqb c n) m 0) (below_single b c m n) ∙ more b)
  where
    more : (b : Bool) → cond {A = ℕ} (b && ltb c n) m 0 + cond {A = ℕ} (b && eqb c n) m 0 ≡ cond {A = ℕ} (b && ltb c (suc n)) m 0
    more true = grind (arith, nat_tests)
    more false = omega arith
