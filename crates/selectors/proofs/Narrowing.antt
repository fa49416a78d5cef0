-- The gate's search: what the codes with one prefix weigh. Assumes nothing.
use Rattle.std.proofs.Common.{◌≡◌, ℕ, suc, ◌+◌, ◌-◌, ◌*◌, ◌/◌, ◌^◌, ◌<◌, ◌≤◌, cond, ltb, List, length, get_or, sym, ap, ◌∙◌, subst, ⊎_elim, mul_assoc, div-lt_iff_lt-mul, add-mul, mul-one, mul-div_cancel, add-one, arith}
use Rattle.std.proofs.lemmas.Bool.{cases_lt}
use Rattle.std.proofs.lemmas.Bool.Decides.{nat_tests}
use Rattle.std.proofs.lemmas.Nat.{pow_pos}
use native.Mathlib.Nat.{pow-succ'}
use Rattle.selectors.specs.declared.entries.Entry.{Entry}
use Rattle.selectors.specs.Bag.{below, Ranked}
use Rattle.selectors.specs.Entries.{blank, weigh, under}
use Rattle.selectors.proofs.Ranks.{ranked_from}
use Rattle.selectors.proofs.Sums.{below_same, below_mono}
use Rattle.selectors.proofs.Weighing.{below_plus, below_weigh}

-- with k bits to go, the codes with the prefix p hold the code of rank r, which is of rank left among them
abbrev pub Narrowed : (ℕ → ℕ) → ℕ → ℕ → ℕ → ℕ → Type 0
Narrowed w r k p left = (below w (p * 2 ^ k) + left ≡ r) × (0 < left) × (r ≤ below w ((p + 1) * 2 ^ k)) × ((p + 1) * 2 ^ k ≤ 33554432)

-- the same codes, with a bit less to go
pub half : (k p : ℕ) → 0 < k → p * 2 ^ k ≡ p * 2 * 2 ^ (k - 1)
half k p h =
    let s : k ≡ suc (k - 1) = omega arith in
    ap (λ j. p * 2 ^ j) s ∙ ap (λ x. p * x) (pow-succ' 2 (k - 1)) ∙ sym (mul_assoc p 2 (2 ^ (k - 1)))

pub half_next : (k p : ℕ) → 0 < k → (p + 1) * 2 ^ k ≡ (p * 2 + 1 + 1) * 2 ^ (k - 1)
half_next k p h = let s : (p + 1) * 2 ≡ p * 2 + 1 + 1 = omega arith in half k (p + 1) h ∙ ap (λ x. x * 2 ^ (k - 1)) s

-- the codes with the bit 0 next are codes
pub narrowed_half : (w : ℕ → ℕ) (r k p left : ℕ) → 0 < k → Narrowed w r k p left → (p * 2 + 1) * 2 ^ (k - 1) ≤ 33554432
narrowed_half w r k p left h t = omega (arith, half_next k p h, t.3, add-mul (p * 2 + 1) 1 (2 ^ (k - 1)))

-- lower is what the codes with the bit 0 next weigh: the rank lies there, or among those with the bit 1
pub narrowed_low : (w : ℕ → ℕ) (r k p left lower : ℕ) → 0 < k → Narrowed w r k p left → below w ((p * 2 + 1) * 2 ^ (k - 1)) ≡ below w (p * 2 * 2 ^ (k - 1)) + lower → left ≤ lower → Narrowed w r (k - 1) (p * 2) left
narrowed_low w r k p left lower h t sum le =
    let same : below w (p * 2 ^ k) ≡ below w (p * 2 * 2 ^ (k - 1)) = ap (below w) (half k p h) in
    (omega (arith, same, t.0), t.1, omega (arith, same, t.0, sum), narrowed_half w r k p left h t)

pub narrowed_high : (w : ℕ → ℕ) (r k p left lower : ℕ) → 0 < k → Narrowed w r k p left → below w ((p * 2 + 1) * 2 ^ (k - 1)) ≡ below w (p * 2 * 2 ^ (k - 1)) + lower → lower < left → Narrowed w r (k - 1) (p * 2 + 1) (left - lower)
narrowed_high w r k p left lower h t sum lt =
    let same : below w (p * 2 ^ k) ≡ below w (p * 2 * 2 ^ (k - 1)) = ap (below w) (half k p h) in
    let top : below w ((p + 1) * 2 ^ k) ≡ below w ((p * 2 + 1 + 1) * 2 ^ (k - 1)) = ap (below w) (half_next k p h) in
    (omega (arith, same, t.0, sum), omega arith, omega (arith, top, t.2), omega (arith, half_next k p h, t.3))

-- low is the prefix with the bit 0 after it
abbrev pub Halved : (ℕ → ℕ) → ℕ → ℕ → ℕ → ℕ → Type 0
Halved w r k low left = (low / 2 * 2 ≡ low) × (Narrowed w r k (low / 2) left)

pub halved_half : (w : ℕ → ℕ) (r k low left : ℕ) → 0 < k → Halved w r k low left → (low + 1) * 2 ^ (k - 1) ≤ 33554432
halved_half w r k low left h t = subst (λ x. (x + 1) * 2 ^ (k - 1) ≤ 33554432) t.0 (narrowed_half w r k (low / 2) left h t.1)

-- a prefix with the bit 0 after it
pub doubled : (w : ℕ → ℕ) (r k p left : ℕ) → Narrowed w r k p left → Halved w r k (p * 2) left
doubled w r k p left t =
    let back : p * 2 / 2 ≡ p = mul-div_cancel p (omega arith) in
    (ap (λ x. x * 2) back, subst (λ x. Narrowed w r k x left) (sym back) t)

pub halved_low : (w : ℕ → ℕ) (r k low left lower : ℕ) → 0 < k → Halved w r k low left → below w ((low + 1) * 2 ^ (k - 1)) ≡ below w (low * 2 ^ (k - 1)) + lower → left ≤ lower → Halved w r (k - 1) (low * 2) left
halved_low w r k low left lower h t sum le =
    doubled w r (k - 1) low left (subst (λ x. below w ((x + 1) * 2 ^ (k - 1)) ≡ below w (x * 2 ^ (k - 1)) + lower → Narrowed w r (k - 1) x left) t.0 (λ s. narrowed_low w r k (low / 2) left lower h t.1 s le) sum)

pub halved_high : (w : ℕ → ℕ) (r k low left lower : ℕ) → 0 < k → Halved w r k low left → below w ((low + 1) * 2 ^ (k - 1)) ≡ below w (low * 2 ^ (k - 1)) + lower → lower < left → Halved w r (k - 1) ((low + 1) * 2) (left - lower)
halved_high w r k low left lower h t sum lt =
    doubled w r (k - 1) (low + 1) (left - lower) (subst (λ x. below w ((x + 1) * 2 ^ (k - 1)) ≡ below w (x * 2 ^ (k - 1)) + lower → Narrowed w r (k - 1) (x + 1) (left - lower)) t.0 (λ s. narrowed_high w r k (low / 2) left lower h t.1 s lt) sum)

-- with no bit to go, the prefix is the code
pub narrowed_end : (w : ℕ → ℕ) (r p left : ℕ) → Narrowed w r 0 p left → Ranked w r p
narrowed_end w r p left t =
    let here : below w (p * 2 ^ 0) ≡ below w p = ap (below w) (mul-one p) in
    let next : below w ((p + 1) * 2 ^ 0) ≡ below w (suc p) = ap (below w) (mul-one (p + 1) ∙ add-one p) in
    ranked_from w r p (omega (arith, t.0, t.1, here)) (omega (arith, t.2, next))

-- a code begins with the prefix p just if it is at least p and below p + 1, with k bits after it
pub under_split : (e : Entry) (k p : ℕ) → cond (ltb e.code ((p + 1) * 2 ^ k)) e.weight 0 ≡ cond (ltb e.code (p * 2 ^ k)) e.weight 0 + under e k p
under_split e k p =
    let pos = pow_pos k in
    let up : p * 2 ^ k ≤ (p + 1) * 2 ^ k = omega (arith, add-mul p 1 (2 ^ k)) in
    let low = div-lt_iff_lt-mul {x = e.code} {y = p} pos in
    let high = div-lt_iff_lt-mul {x = e.code} {y = p + 1} pos in
    ⊎_elim
    (λ (a : e.code < p * 2 ^ k). let q : e.code / 2 ^ k < p = low.1 a in grind (arith, nat_tests))
    (λ (a : p * 2 ^ k ≤ e.code). ⊎_elim
    (λ (b : e.code < (p + 1) * 2 ^ k).
    let q : e.code / 2 ^ k < p + 1 = high.1 b in
    let s : e.code / 2 ^ k ≡ p = ⊎_elim (λ (t : e.code / 2 ^ k < p). absurd (omega (arith, low.0 t))) (λ (t : p ≤ e.code / 2 ^ k). omega arith) (cases_lt (e.code / 2 ^ k) p) in
    grind (arith, nat_tests))
    (λ (b : (p + 1) * 2 ^ k ≤ e.code).
    let s : e.code / 2 ^ k ≡ p → ⊥ = λ t. let u : e.code / 2 ^ k < p + 1 = omega arith in omega (arith, high.0 u) in
    grind (arith, nat_tests))
    (cases_lt e.code ((p + 1) * 2 ^ k)))
    (cases_lt e.code (p * 2 ^ k))

-- the codes with the prefix p, entry by entry
pub below_under : (es : List Entry) (n k p : ℕ) → below (weigh es n) ((p + 1) * 2 ^ k) ≡ below (weigh es n) (p * 2 ^ k) + below (λ i. under (get_or es i blank) k p) n
below_under es n k p =
    let f : ℕ → ℕ = λ i. cond (ltb (get_or es i blank).code (p * 2 ^ k)) (get_or es i blank).weight 0 in
    let g : ℕ → ℕ = λ i. under (get_or es i blank) k p in
    let h : ℕ → ℕ = λ i. cond (ltb (get_or es i blank).code ((p + 1) * 2 ^ k)) (get_or es i blank).weight 0 in
    let each : below h n ≡ below (λ i. f i + g i) n = below_same h (λ i. f i + g i) n (λ i _. under_split (get_or es i blank) k p) in
    omega (arith, below_weigh es n ((p + 1) * 2 ^ k), below_weigh es n (p * 2 ^ k), each, below_plus f g n)

-- their weight is within the total
pub under_light : (es : List Entry) (n k p i : ℕ) → i ≤ n → (p + 1) * 2 ^ k ≤ 33554432 → below (weigh es n) 33554432 ≤ 65535 → below (λ j. under (get_or es j blank) k p) i ≤ 65535
under_light es n k p i le small light =
    omega (arith, below_mono (λ j. under (get_or es j blank) k p) i n le, below_under es n k p, below_mono (weigh es n) ((p + 1) * 2 ^ k) 33554432 small)

-- lower is the sum over all entries
pub under_all : (es : List Entry) (k p i lower : ℕ) → i ≡ length es → lower ≡ below (λ j. under (get_or es j blank) k p) i → below (weigh es (length es)) ((p + 1) * 2 ^ k) ≡ below (weigh es (length es)) (p * 2 ^ k) + lower
under_all es k p i lower e s =
    let all : below (λ j. under (get_or es j blank) k p) i ≡ below (λ j. under (get_or es j blank) k p) (length es) = ap (below (λ j. under (get_or es j blank) k p)) e in
    omega (arith, s, all, below_under es (length es) k p)
