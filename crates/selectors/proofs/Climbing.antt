-- Entries es, of which the first n rise: their sums, and what a put leaves. Assumes nothing.
use Rattle.std.proofs.Common.{◌≡◌, ℕ, suc, ◌+◌, ◌-◌, ◌<◌, ◌≤◌, cond, ltb, List, length, get_or, take, Err, ap, ◌∙◌, ⊎_elim, arith}
use Rattle.std.proofs.lemmas.Bool.{cases_eq, cases_lt, lt-ltb, le-ltb}
use Rattle.std.proofs.lemmas.List.{length-take-le}
use Rattle.std.proofs.lemmas.Bool.Decides.{nat_tests}
use Rattle.selectors.specs.declared.entries.Entry.{Entry}
use Rattle.selectors.specs.Bag.{below}
use Rattle.selectors.specs.Entries.{blank, weigh, Rising, Seat}
use Rattle.selectors.proofs.Sums.{below_cut, below_le}
use Rattle.selectors.proofs.Weighing.{Inserted, below_weigh, front_at}

-- what lies below a bound m with the entries before the i-th below it, and the others not
pub rising_sum : (es : List Entry) (n i m : ℕ) → i ≤ n → ((j : ℕ) → j < i → (get_or es j blank).code < m) → ((j : ℕ) → i ≤ j → j < n → m ≤ (get_or es j blank).code) → below (weigh es n) m ≡ below (λ j. (get_or es j blank).weight) i
rising_sum es n i m le low high =
    below_weigh es n m
    ∙ below_cut (λ j. cond (ltb (get_or es j blank).code m) (get_or es j blank).weight 0) (λ j. (get_or es j blank).weight) i n le
    (λ j l. ap (λ b. cond b (get_or es j blank).weight 0) (lt-ltb (get_or es j blank).code m (low j l)))
    (λ j l k. ap (λ b. cond b (get_or es j blank).weight 0) (le-ltb (get_or es j blank).code m (high j l k)))

-- below the code of the i-th entry lie the entries before it
pub rising_below : (es : List Entry) (n i : ℕ) → Rising es n → i < n → below (weigh es n) (get_or es i blank).code ≡ below (λ j. (get_or es j blank).weight) i
rising_below es n i r l =
    rising_sum es n i (get_or es i blank).code (omega arith) (λ j k. r j i k l)
    (λ j k m. ⊎_elim (λ (e : i ≡ j). let s : (get_or es i blank).code ≡ (get_or es j blank).code = ap (λ x. (get_or es x blank).code) e in omega (arith, s)) (λ (e : i ≡ j → ⊥). omega (arith, r i j (omega arith) m)) (cases_eq i j))

-- and up to it, itself besides
pub rising_upto : (es : List Entry) (n i : ℕ) → Rising es n → i < n → below (weigh es n) (suc (get_or es i blank).code) ≡ below (λ j. (get_or es j blank).weight) (suc i)
rising_upto es n i r l =
    rising_sum es n (suc i) (suc (get_or es i blank).code) l
    (λ j k. ⊎_elim (λ (e : j ≡ i). let s : (get_or es j blank).code ≡ (get_or es i blank).code = ap (λ x. (get_or es x blank).code) e in omega (arith, s)) (λ (e : j ≡ i → ⊥). omega (arith, r j i (omega arith) l)) (cases_eq j i))
    (λ j k m. r i j k m)

-- all entries weigh at least what those below m do
pub weigh_whole : (es : List Entry) (n m : ℕ) → below (weigh es n) m ≤ below (λ j. (get_or es j blank).weight) n
weigh_whole es n m =
    omega (arith, below_weigh es n m, below_le (λ j. cond (ltb (get_or es j blank).code m) (get_or es j blank).weight 0) (λ j. (get_or es j blank).weight) n (λ j _. grind (arith, nat_tests)))

-- the first n entries by themselves
pub rising_front : (es : List Entry) (n : ℕ) → n ≤ length es → Rising es n → Rising (take n es) (length (take n es))
rising_front es n le r i j l m =
    let k : j < n = omega (arith, length-take-le n es le) in
    let a : (get_or (take n es) i blank).code ≡ (get_or es i blank).code = ap (λ e. e.code) (front_at es n i (omega arith)) in
    let b : (get_or (take n es) j blank).code ≡ (get_or es j blank).code = ap (λ e. e.code) (front_at es n j k) in
    omega (arith, a, b, r i j l k)

-- an entry where its code belongs
pub rising_inserted : (es fs : List Entry) (n at : ℕ) (e : Entry) → n ≤ length es → Seat (take n es) e.code (Err at) → Inserted es fs n at e → Rising es n → Rising fs (n + 1)
rising_inserted es fs n at e le seat ins r i j l m =
    let c = e.code in
    let len = length-take-le n es le in
    let same : (k : ℕ) → k < n → (get_or (take n es) k blank).code ≡ (get_or es k blank).code = λ k b. ap (λ x. x.code) (front_at es n k b) in
    let low : (k : ℕ) → k < at → (get_or es k blank).code < c = λ k b. omega (arith, same k (omega (arith, len, seat.0)), seat.1 k b) in
    let high : (k : ℕ) → at ≤ k → k < n → c < (get_or es k blank).code = λ k a b. omega (arith, same k b, seat.2 k a (omega (arith, len))) in
    let before : (k : ℕ) → k < at → (get_or fs k blank).code ≡ (get_or es k blank).code = λ k b. ap (λ x. x.code) (ins.1 k b) in
    let here : (get_or fs at blank).code ≡ c = ap (λ x. x.code) ins.2 in
    let after : (k : ℕ) → at < k → k < n + 1 → (get_or fs k blank).code ≡ (get_or es (k - 1) blank).code = λ k b d.
    (let s : k ≡ suc (k - 1) = omega arith in ap (λ y. (get_or fs y blank).code) s ∙ ap (λ x. x.code) (ins.3 (k - 1) (omega arith) (omega arith))) in
    ⊎_elim
    (λ (b : j < at). omega (arith, before i (omega arith), before j b, r i j l (omega arith)))
    (λ (b : at ≤ j). ⊎_elim
    (λ (q : j ≡ at). let s : (get_or fs j blank).code ≡ (get_or fs at blank).code = ap (λ y. (get_or fs y blank).code) q in omega (arith, s, here, before i (omega arith), low i (omega arith)))
    (λ (q : j ≡ at → ⊥). let up = after j (omega arith) m in ⊎_elim
    (λ (d : i < at). omega (arith, up, before i d, r i (j - 1) (omega arith) (omega arith)))
    (λ (d : at ≤ i). ⊎_elim
    (λ (p : i ≡ at). let s : (get_or fs i blank).code ≡ (get_or fs at blank).code = ap (λ y. (get_or fs y blank).code) p in omega (arith, up, s, here, high (j - 1) (omega arith) (omega arith)))
    (λ (p : i ≡ at → ⊥). omega (arith, up, after i (omega arith) (omega arith), r (i - 1) (j - 1) (omega arith) (omega arith)))
    (cases_eq i at))
    (cases_lt i at))
    (cases_eq j at))
    (cases_lt j at)
