-- Entries put one by one, and the rank of the median. Assumes nothing.
use Rattle.std.proofs.Common.{◌≡◌, ℕ, zero, suc, ◌+◌, ◌/◌, ◌%◌, ◌<◌, ◌≤◌, min, ◌||◌, eqb, leb, ◌⊎◌, List, length, get_or, Some, None, Option, Ok, Err, Result, sym, refl, ap, ◌∙◌, subst, ⊎_elim, arith, below_more as each_more}
use Rattle.std.specs.Result.{result_map_both}
use mathlib.Core.Path.{fun_ext}
use Rattle.std.proofs.lemmas.Bool.Decides.{nat_tests}
use Rattle.std.proofs.lemmas.Bool.{cases_eq, cases_lt, eq-eqb, le-leb, or_left, or_right}
use Rattle.selectors.specs.declared.entries.Entry.{Entry}
use Rattle.selectors.specs.declared.median.MedianRefusal.TheVariants.{NoEntries}
use Rattle.selectors.specs.declared.refusals.SelectRefusal.{SelectRefusal}
use Rattle.selectors.specs.Bag.{below, added, Ranked}
use Rattle.selectors.specs.Calls.{put_refusal, Selected}
use Rattle.selectors.specs.Entries.{blank, share, weigh}
use Rattle.selectors.specs.Median.{put_at, put_count, AllPut, Halves, Median}
use Rattle.selectors.proofs.Sums.{below_more, below_at}
use Rattle.selectors.proofs.Ranks.{ranked_below}
use Rattle.selectors.proofs.Weighing.{weigh_some}

-- what refuses the next entry, by a selector of range Q that holds the first i
pub put_next : (es : List Entry) (v : ℕ → ℕ) (Q R i : ℕ) (x : Option ℕ) → ((d : ℕ) → v d ≡ weigh es i d)
    → Q ≡ R
    → x ≡ put_refusal v Q (get_or es i blank).code (get_or es i blank).weight
    → put_at es R i ≡ x
put_next es v Q R i x same range answer =
    sym (answer ∙ ap (λ w. put_refusal w Q (get_or es i blank).code (get_or es i blank).weight) (fun_ext same) ∙ ap (λ S. put_at es S i) range)

-- one entry more
pub weigh_next : (es : List Entry) (i c : ℕ) → weigh es (i + 1) c ≡ added (weigh es i) (get_or es i blank).code (get_or es i blank).weight c
weigh_next es i c =
    let fin : weigh es i c + share (get_or es i blank) c ≡ added (weigh es i) (get_or es i blank).code (get_or es i blank).weight c = grind (arith, nat_tests) in
    below_more (λ k. share (get_or es k blank) c) i ∙ fin

pub all_put_more : (es : List Entry) (R i : ℕ) → AllPut es R i → put_at es R i ≡ None → AllPut es R (i + 1)
all_put_more es R i t here = each_more (λ k. put_at es R k ≡ None) i t here

-- what is taken has weight and a code below the range
pub put_fit : (w : ℕ → ℕ) (R c a : ℕ) → put_refusal w R c a ≡ None → (0 < a) × (c < R)
put_fit w R c a ok =
    let fit : (eqb a 0 || leb R c) ≡ mathlib.Core.Bool.true → ⊥ = λ t. (let bad : put_refusal w R c a ≡ Some 2 = rw t in cc) in (
      ⊎_elim (λ (e : a ≡ 0). absurd (fit (or_left (eqb a 0) (leb R c) (eq-eqb a 0 e)))) (λ (n : a ≡ 0 → ⊥). omega arith) (cases_eq a 0),
      ⊎_elim (λ (l : c < R). l) (λ (l : R ≤ c). absurd (fit (or_right (eqb a 0) (leb R c) (le-leb R c l)))) (cases_lt c R),
    )

-- entries that are all taken weigh something, unless there are none
pub all_put_none : (es : List Entry) (R n : ℕ) → AllPut es R n → below (weigh es n) R ≡ 0 → n ≡ 0
all_put_none es R zero t z = refl
all_put_none es R (suc n) t z =
    let fit = put_fit (weigh es 0) R (get_or es 0 blank).code (get_or es 0 blank).weight (t 0 (omega arith)) in
    absurd (omega (arith, fit.0, weigh_some es (suc n) 0 (get_or es 0 blank).code (omega arith) refl, below_at (weigh es (suc n)) (get_or es 0 blank).code R fit.1))

-- r is half the total t, rounded up
pub halves_from : (w : ℕ → ℕ) (R t r c : ℕ) → t ≡ below w R → r ≡ t / 2 + min 1 (t % 2) → 0 < r → Ranked w r c → Halves w R c
halves_from w R t r c whole half pos p = let less = ranked_below w r c pos p in (omega arith, omega arith)

-- no such rank is only that of nothing
pub half_none : (w : ℕ → ℕ) (R t r : ℕ) → t ≡ below w R → r ≡ t / 2 + min 1 (t % 2) → (r ≡ 0) ⊎ (below w R < r) → below w R ≡ 0
half_none w R t r whole half none = ⊎_elim (λ (z : r ≡ 0). omega arith) (λ (z : below w R < r). absurd (omega arith)) none

-- with all entries put, the code at that rank is the median, and no such code says that there are no entries
pub median_end : (es : List Entry) (w : ℕ → ℕ) (R t r : ℕ) (x : Result ℕ SelectRefusal) → AllPut es R (length es) → w ≡ weigh es (length es) → t ≡ below w R → r ≡ t / 2 + min 1 (t % 2) → Selected w R r x → Median es R (result_map_both (λ n. n) (λ _. NoEntries) x) × ((d : ℕ) → w d ≡ weigh es (put_count es (result_map_both (λ n. n) (λ _. NoEntries) x)) d)
median_end es w R t r (Ok c) taken bag whole half sel = ((taken, subst (λ v. Halves v R c) bag (halves_from w R t r c whole half sel.0 sel.2)), λ d. ap (λ v. v d) bag)
median_end es w R t r (Err e) taken bag whole half sel =
    let zero : below w R ≡ 0 = half_none w R t r whole half sel.1 in
    let none : length es ≡ 0 = all_put_none es R (length es) taken (subst (λ v. below v R ≡ 0) bag zero) in
    ((refl, none), λ d. ap (λ v. v d) bag ∙ ap (λ k. weigh es k d) none)
