-- Laws of `Ranked` and `Selected`: a rank has exactly one answer. Assumes nothing.
use Rattle.std.proofs.Common.{◌≡◌, ℕ, zero, suc, ◌<◌, ◌≤◌, Ok, Err, Result, refl, ap, inl, inr, ⊎_elim, arith}
use Rattle.std.proofs.lemmas.Bool.{cases_lt, cases_eq}
use Rattle.selectors.specs.declared.refusals.SelectRefusal.{SelectRefusal}
use Rattle.selectors.specs.declared.refusals.SelectRefusal.TheVariants.{Unranked}
use Rattle.selectors.specs.Bag.{below, Ranked}
use Rattle.selectors.specs.Calls.{Selected}
use Rattle.selectors.specs.Theorems.{OneAnswer, AnswerHasWeight}
use Rattle.selectors.proofs.Sums.{below_zero, below_suc, below_mono, below_short}

-- the code at which the running weight reaches the rank
pub ranked_from : (w : ℕ → ℕ) (r c : ℕ) → below w c < r → r ≤ below w (suc c) → Ranked w r c
ranked_from w r c lo hi = (hi, λ d h. ⊎_elim (λ l. let k : suc d ≤ c = omega arith in absurd (omega (arith, below_mono w (suc d) c k))) (λ l. l) (cases_lt d c))

-- two codes of one rank are the same
pub ranked_one : (w : ℕ → ℕ) (r c d : ℕ) → Ranked w r c → Ranked w r d → c ≡ d
ranked_one w r c d p q = omega (arith, p.1 d q.0, q.1 c p.0)

-- the codes before the ranked one fall short of the rank
pub ranked_below : (w : ℕ → ℕ) (r c : ℕ) → 0 < r → Ranked w r c → below w c < r
ranked_below w r zero pos p = omega (arith, below_zero w)
ranked_below w r (suc c) pos p = ⊎_elim (λ l. l) (λ l. absurd (omega (arith, p.1 c l))) (cases_lt (below w (suc c)) r)

-- a rank up to what the codes below R weigh has a code below R
pub ranked_some : (w : ℕ → ℕ) (R r : ℕ) → 0 < r → r ≤ below w R → (c : ℕ) × (c < R) × Ranked w r c
ranked_some w zero r pos le = absurd (omega (arith, below_zero w))
ranked_some w (suc R) r pos le = ⊎_elim
    (λ (l : below w R < r). (R, omega arith, ranked_from w r R l le))
    (λ (l : r ≤ below w R). let s = ranked_some w R r pos l in (s.0, omega (arith, s.1), s.2))
    (cases_lt (below w R) r)

-- two answers at one rank are the same
pub selected_one : (w : ℕ → ℕ) (R r : ℕ) (x y : Result ℕ SelectRefusal) → Selected w R r x → Selected w R r y → x ≡ y
selected_one w R r (Ok c) (Ok d) p q = ap Ok (ranked_one w r c d p.2 q.2)
selected_one w R r (Ok c) (Err e) p q = absurd (⊎_elim (λ (z : r ≡ 0). omega (arith, p.0)) (λ (z : below w R < r). omega (arith, p.1)) q.1)
selected_one w R r (Err e) (Ok d) p q = absurd (⊎_elim (λ (z : r ≡ 0). omega (arith, q.0)) (λ (z : below w R < r). omega (arith, q.1)) p.1)
selected_one w R r (Err Unranked) (Err Unranked) p q = refl

pub selected_some : (w : ℕ → ℕ) (R r : ℕ) → (x : Result ℕ SelectRefusal) × Selected w R r x
selected_some w R r = ⊎_elim
    (λ (z : r ≡ 0). (Err Unranked, (refl, inl z)))
    (λ (z : r ≡ 0 → ⊥). ⊎_elim
    (λ (l : below w R < r). (Err Unranked, (refl, inr l)))
    (λ (l : r ≤ below w R). let s = ranked_some w R r (omega arith) l in (Ok s.0, (omega arith, l, s.2)))
    (cases_lt (below w R) r))
    (cases_eq r 0)

pub one_answer : OneAnswer
one_answer w R r = let s = selected_some w R r in (s.0, s.1, λ y q. selected_one w R r y s.0 q s.1)

pub answer_has_weight : AnswerHasWeight
answer_has_weight w R r c p =
    let less = ranked_below w r c p.0 p.2 in
    (below_short w r c R less p.1, omega (arith, less, p.2.0, below_suc w c))
