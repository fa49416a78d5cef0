-- The bag of a list of entries: what an entry more, or more weight on an entry, makes of it. Assumes nothing.
use Rattle.std.proofs.Common.{◌≡◌, ℕ, zero, suc, ◌+◌, ◌-◌, ◌<◌, ◌≤◌, cond, eqb, ltb, List, length, get_or, take, set, sym, ap, ◌∙◌, ⊎_elim, add-one, arith, length-set}
use mathlib.Core.Path.{fun_ext}
use Rattle.std.proofs.lemmas.Bool.{cases_eq}
use Rattle.std.proofs.lemmas.Bool.Decides.{nat_tests}
use Rattle.std.proofs.lemmas.List.{get_or-set_same, get_or-set_other, get_or-take, length-take-le}
use Rattle.std.specs.List.{CopiedTo, SameBelow}
use Rattle.selectors.specs.declared.entries.Entry.{Entry}
use Rattle.selectors.specs.Bag.{below, added}
use Rattle.selectors.specs.Entries.{blank, share, weigh}
use Rattle.selectors.proofs.Sums.{below_zero, below_suc, below_same, below_none, below_at, below_added, below_inserted}

-- no entries, no weight
pub weigh_zero : (es : List Entry) (c : ℕ) → weigh es 0 c ≡ 0
weigh_zero es c = below_zero (λ i. share (get_or es i blank) c)

-- a code that no entry has weighs nothing
pub weigh_none : (es : List Entry) (n c : ℕ) → ((i : ℕ) → i < n → (get_or es i blank).code ≡ c → ⊥) → weigh es n c ≡ 0
weigh_none es n c h = below_none (λ i. share (get_or es i blank) c) n (λ i l. let no : (get_or es i blank).code ≡ c → ⊥ = h i l in grind (arith, nat_tests))

-- a code that an entry has weighs at least what that entry does
pub weigh_some : (es : List Entry) (n i c : ℕ) → i < n → (get_or es i blank).code ≡ c → (get_or es i blank).weight ≤ weigh es n c
weigh_some es n i c l e =
    let s : share (get_or es i blank) c ≡ (get_or es i blank).weight = grind (arith, nat_tests) in
    omega (arith, s, below_at (λ k. share (get_or es k blank) c) i n l)

-- an entry with a more on it
abbrev pub raised : Entry → ℕ → Entry
raised e a = record { code = e.code; weight = e.weight + a }

-- a more on the entry i
pub weigh_more : (es : List Entry) (n i c a d : ℕ) → i < n → i < length es → (get_or es i blank).code ≡ c → weigh (set es i (raised (get_or es i blank) a)) n d ≡ added (weigh es n) c a d
weigh_more es n i c a d l w e =
    let more : Entry = raised (get_or es i blank) a in
    let f : ℕ → ℕ = λ k. share (get_or es k blank) d in
    let b : ℕ = cond (eqb c d) a 0 in
    let at : (k : ℕ) → share (get_or (set es i more) k blank) d ≡ added f i b k = λ k. ⊎_elim
    (λ (q : i ≡ k). let here : get_or (set es i more) k blank ≡ more = ap (λ m. get_or (set es i more) m blank) (sym q) ∙ get_or-set_same es i more blank w in
    let old : (get_or es k blank).code ≡ c = ap (λ m. (get_or es m blank).code) (sym q) ∙ e in
    let was : (get_or es k blank).weight ≡ (get_or es i blank).weight = ap (λ m. (get_or es m blank).weight) (sym q) in
    let now : share (get_or (set es i more) k blank) d ≡ share more d = ap (λ x. share x d) here in
    now ∙ (grind (arith, nat_tests)))
    (λ (q : i ≡ k → ⊥). let there : get_or (set es i more) k blank ≡ get_or es k blank = get_or-set_other es i k more blank (λ p. q (sym p)) in
    let now : share (get_or (set es i more) k blank) d ≡ share (get_or es k blank) d = ap (λ x. share x d) there in
    now ∙ (grind (arith, nat_tests)))
    (cases_eq i k) in
    let sum = below_same (λ k. share (get_or (set es i more) k blank) d) (added f i b) n (λ k _. at k) in
    let plus : below (added f i b) n ≡ below f n + b = below_added f i b n l in
    let fin : below f n + b ≡ added (weigh es n) c a d = grind (arith, nat_tests) in
    sum ∙ plus ∙ fin

-- fs is es with e at the place at, and the entries from there up to the n-th one place on
abbrev pub Inserted : List Entry → List Entry → ℕ → ℕ → Entry → Type 0
Inserted es fs n at e =
    (length fs ≡ length es)
    × ((i : ℕ) → i < at → get_or fs i blank ≡ get_or es i blank)
    × (get_or fs at blank ≡ e)
    × ((i : ℕ) → at ≤ i → i < n → get_or fs (suc i) blank ≡ get_or es i blank)

-- one entry more
pub weigh_inserted : (es fs : List Entry) (n at : ℕ) (e : Entry) (d : ℕ) → at ≤ n → Inserted es fs n at e → weigh fs (n + 1) d ≡ added (weigh es n) e.code e.weight d
weigh_inserted es fs n at e d le ins =
    let c = e.code in
    let a = e.weight in
    let sum : below (λ k. share (get_or fs k blank) d) (suc n) ≡ weigh es n d + cond (eqb c d) a 0 =
    below_inserted (λ k. share (get_or es k blank) d) (λ k. share (get_or fs k blank) d) n at (cond (eqb c d) a 0) le
    (λ i l. ap (λ x. share x d) (ins.1 i l)) (ap (λ x. share x d) ins.2) (λ i l m. ap (λ x. share x d) (ins.3 i l m)) in
    let fin : weigh es n d + cond (eqb c d) a 0 ≡ added (weigh es n) c a d = grind (arith, nat_tests) in
    ap (below (λ k. share (get_or fs k blank) d)) (add-one n) ∙ sum ∙ fin

-- the entries from at up to the n-th are copied one place on, and e is written at at
pub inserted_copied : (es fs : List Entry) (n at : ℕ) (e : Entry) → at ≤ n → n < length es → length fs ≡ length es → CopiedTo es fs at (at + 1) (n - at) → SameBelow es fs (at + 1) → Inserted es (set fs at e) n at e
inserted_copied es fs n at e le lt len copied same = (
  length-set fs at e ∙ len,
  λ i l. get_or-set_other fs at i e blank (λ q. omega arith) ∙ same i blank (omega arith),
  get_or-set_same fs at e blank (omega (arith, len)),
  λ i l m. (
      let k : at + (suc i - (at + 1)) ≡ i = omega arith in
      get_or-set_other fs at (suc i) e blank (λ q. omega arith) ∙ copied (suc i) blank (omega arith) (omega arith) ∙ ap (λ j. get_or es j blank) k),
)

-- what one entry adds to the codes below m
pub below_share : (e : Entry) (m : ℕ) → below (share e) m ≡ cond (ltb e.code m) e.weight 0
below_share e zero = below_zero (share e) ∙ (grind (arith, nat_tests))
below_share e (suc m) =
    let s : below (share e) (suc m) ≡ below (share e) m + share e m = below_suc (share e) m in
    let was = below_share e m in
    let fin : cond (ltb e.code m) e.weight 0 + share e m ≡ cond (ltb e.code (suc m)) e.weight 0 = grind (arith, nat_tests) in
    s ∙ ap (λ x. x + share e m) was ∙ fin

-- sums of sums, either way round
pub below_plus : (f g : ℕ → ℕ) (m : ℕ) → below (λ c. f c + g c) m ≡ below f m + below g m
below_plus f g zero = omega (arith, below_zero f, below_zero g, below_zero (λ c. f c + g c))
below_plus f g (suc m) = omega (arith, below_plus f g m, below_suc f m, below_suc g m, below_suc (λ c. f c + g c) m)

-- what the entries weigh below m, entry by entry
pub below_weigh : (es : List Entry) (n m : ℕ) → below (weigh es n) m ≡ below (λ i. cond (ltb (get_or es i blank).code m) (get_or es i blank).weight 0) n
below_weigh es zero m = below_none (weigh es 0) m (λ c _. weigh_zero es c) ∙ sym (below_zero _)
below_weigh es (suc n) m =
    let f : ℕ → ℕ = λ i. cond (ltb (get_or es i blank).code m) (get_or es i blank).weight 0 in
    let e = get_or es n blank in
    let split : below (weigh es (suc n)) m ≡ below (λ c. weigh es n c + share e c) m = below_same (weigh es (suc n)) (λ c. weigh es n c + share e c) m (λ c _. below_suc (λ i. share (get_or es i blank) c) n) in
    omega (arith, split, below_plus (weigh es n) (share e) m, below_weigh es n m, below_share e m, below_suc f n)

-- the first n entries by themselves
pub front_at : (es : List Entry) (n i : ℕ) → i < n → get_or (take n es) i blank ≡ get_or es i blank
front_at es n i l = get_or-take n es i blank l

pub front_bag : (es : List Entry) (n : ℕ) → n ≤ length es → weigh (take n es) (length (take n es)) ≡ weigh es n
front_bag es n h = ap (weigh (take n es)) (length-take-le n es h) ∙ fun_ext (λ c. below_same (λ i. share (get_or (take n es) i blank) c) (λ i. share (get_or es i blank) c) n (λ i l. ap (λ e. share e c) (front_at es n i l)))
