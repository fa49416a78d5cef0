-- Entries es, of which the first n are kept and weigh s together: a put on a code that has one, and on a code that has none.
-- Assumes nothing.
use Rattle.std.proofs.Common.{◌≡◌, ℕ, ◌+◌, ◌<◌, ◌≤◌, cond, eqb, List, length, get_or, take, set, Ok, Err, sym, ap, ◌∙◌, subst, arith}
use Rattle.std.proofs.lemmas.Bool.{eq-eqb, ne_eqb}
use Rattle.std.proofs.lemmas.List.{length-take-le}
use Rattle.selectors.specs.declared.entries.Entry.{Entry}
use Rattle.selectors.specs.Entries.{blank, weigh, Weighty, Found}
use Rattle.selectors.specs.Tally.{Tally}
use Rattle.selectors.proofs.Tallies.{tally_added}
use Rattle.selectors.proofs.Weighing.{Inserted, raised, weigh_some, weigh_more, weigh_inserted, front_at}

-- what a search among the first n entries finds
pub found_some : (es : List Entry) (n c i : ℕ) → n ≤ length es → Found (take n es) c (Ok i) → (i < n) × ((get_or es i blank).code ≡ c)
found_some es n c i le p =
    let lt : i < n = omega (arith, p.0, length-take-le n es le) in
    (lt, sym (ap (λ e. e.code) (front_at es n i lt)) ∙ p.1)

pub found_none : (es : List Entry) (n c at : ℕ) → n ≤ length es → Found (take n es) c (Err at) → (at ≤ n) × ((i : ℕ) → i < n → (get_or es i blank).code ≡ c → ⊥)
found_none es n c at le p =
    let len = length-take-le n es le in
    (omega (arith, len, p.0), λ i lt e. p.1 i (omega (arith, len)) (ap (λ x. x.code) (front_at es n i lt) ∙ e))

-- the code of an entry has weight
pub weigh_held : (es : List Entry) (n i c : ℕ) → Weighty es n → i < n → (get_or es i blank).code ≡ c → 0 < weigh es n c
weigh_held es n i c w lt e = omega (arith, weigh_some es n i c lt e, w i lt)

-- a more on an entry: as many codes have weight
pub tally_more : (es : List Entry) (R n s i c a : ℕ) → Weighty es n → Tally (weigh es n) R n s → i < n → n ≤ length es → (get_or es i blank).code ≡ c → c < R → 0 < a → s + a ≤ 65535 → Tally (weigh (set es i (raised (get_or es i blank) a)) n) R n (s + a)
tally_more es R n s i c a w t lt le e within pos light =
    let old : cond {A = ℕ} (eqb (weigh es n c) 0) 1 0 ≡ 0 = ap (λ b. cond {A = ℕ} b 1 0) (ne_eqb (weigh es n c) 0 (λ z. omega (arith, weigh_held es n i c w lt e))) in
    let same : n + cond {A = ℕ} (eqb (weigh es n c) 0) 1 0 ≡ n = omega (arith, old) in
    let more : Entry = raised (get_or es i blank) a in
    subst (λ m. Tally (weigh (set es i more) n) R m (s + a)) same
    (tally_added (weigh es n) (weigh (set es i more) n) R n s c a t (λ d. weigh_more es n i c a d lt (omega arith) e) within pos (omega arith) light)

-- an entry more: one code more has weight
pub tally_inserted : (es fs : List Entry) (R n s at : ℕ) (e : Entry) → Tally (weigh es n) R n s → at ≤ n → Inserted es fs n at e → weigh es n e.code ≡ 0 → e.code < R → 0 < e.weight → n < 64 → s + e.weight ≤ 65535 → Tally (weigh fs (n + 1)) R (n + 1) (s + e.weight)
tally_inserted es fs R n s at e t le ins none within pos few light =
    let c = e.code in
    let a = e.weight in
    let new : cond {A = ℕ} (eqb (weigh es n c) 0) 1 0 ≡ 1 = ap (λ b. cond {A = ℕ} b 1 0) (eq-eqb (weigh es n c) 0 none) in
    let more : n + cond {A = ℕ} (eqb (weigh es n c) 0) 1 0 ≡ n + 1 = omega (arith, new) in
    subst (λ m. Tally (weigh fs (n + 1)) R m (s + a)) more
    (tally_added (weigh es n) (weigh fs (n + 1)) R n s c a t (λ d. weigh_inserted es fs n at e d le ins) within pos (omega arith) light)
