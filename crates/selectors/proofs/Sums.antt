-- Laws of `below` and `held`: sums over codes, or over entries. Assumes nothing.
use Rattle.std.proofs.Common.{◌≡◌, ℕ, zero, suc, ◌+◌, ◌<◌, ◌≤◌, cond, eqb, sym, refl, ap, ◌∙◌, ⊎_elim, le_refl, add-one, arith}
use Rattle.std.proofs.lemmas.Bool.{cases_lt}
use Rattle.std.proofs.lemmas.Bool.Decides.{nat_tests}
use Rattle.selectors.specs.Bag.{below, held, added}

pub below_zero : (w : ℕ → ℕ) → below w 0 ≡ 0
unfolding below
below_zero w = refl

pub below_suc : (w : ℕ → ℕ) (n : ℕ) → below w (suc n) ≡ below w n + w n
unfolding below
below_suc w n = refl

-- one more, as a loop counts
pub below_more : (w : ℕ → ℕ) (n : ℕ) → below w (n + 1) ≡ below w n + w n
below_more w n = ap (below w) (add-one n) ∙ below_suc w n

pub held_zero : (w : ℕ → ℕ) → held w 0 ≡ 0
unfolding held
held_zero w = refl

pub held_suc : (w : ℕ → ℕ) (n : ℕ) → held w (suc n) ≡ held w n + cond (eqb (w n) 0) 0 1
unfolding held
held_suc w n = refl

-- a sum over more codes is no smaller
pub below_mono : (w : ℕ → ℕ) (m n : ℕ) → m ≤ n → below w m ≤ below w n
below_mono w m zero h = let e : m ≡ 0 = omega arith in rw e (omega arith)
below_mono w m (suc n) h = ⊎_elim
    (λ l. let k : m ≤ n = omega arith in omega (arith, below_mono w m n k, below_suc w n))
    (λ (l : suc n ≤ m). let e : m ≡ suc n = omega arith in rw e (le_refl (below w (suc n))))
    (cases_lt m (suc n))

-- where the sum is still short of r, the end is not reached
pub below_short : (w : ℕ → ℕ) (r m n : ℕ) → below w m < r → r ≤ below w n → m < n
below_short w r m n lo hi = ⊎_elim (λ l. l) (λ l. absurd (omega (arith, below_mono w n m l))) (cases_lt m n)

-- each code's weight is within the sum
pub below_at : (w : ℕ → ℕ) (c n : ℕ) → c < n → w c ≤ below w n
below_at w c n h = let k : suc c ≤ n = omega arith in omega (arith, below_mono w (suc c) n k, below_suc w c)

-- equal weights, equal sums
pub below_same : (w v : ℕ → ℕ) (n : ℕ) → ((c : ℕ) → c < n → w c ≡ v c) → below w n ≡ below v n
below_same w v zero h = below_zero w ∙ sym (below_zero v)
below_same w v (suc n) h =
    let a = below_same w v n (λ c l. h c (omega arith)) in
    let b : w n ≡ v n = h n (omega arith) in
    omega (arith, below_suc w n, below_suc v n, a, b)

pub held_same : (w v : ℕ → ℕ) (n : ℕ) → ((c : ℕ) → c < n → w c ≡ v c) → held w n ≡ held v n
held_same w v zero h = held_zero w ∙ sym (held_zero v)
held_same w v (suc n) h =
    let a = held_same w v n (λ c l. h c (omega arith)) in
    let b : w n ≡ v n = h n (omega arith) in
    let e : cond (eqb (w n) 0) 0 1 ≡ cond (eqb (v n) 0) 0 1 = ap (λ (x : ℕ). cond {A = ℕ} (eqb x 0) 0 1) b in
    omega (arith, held_suc w n, held_suc v n, a, e)

-- nothing weighs nothing
pub below_none : (w : ℕ → ℕ) (n : ℕ) → ((c : ℕ) → c < n → w c ≡ 0) → below w n ≡ 0
below_none w zero h = below_zero w
below_none w (suc n) h = omega (arith, below_suc w n, below_none w n (λ c l. h c (omega arith)), h n (omega arith))

pub held_none : (w : ℕ → ℕ) (n : ℕ) → ((c : ℕ) → c < n → w c ≡ 0) → held w n ≡ 0
held_none w zero h = held_zero w
held_none w (suc n) h =
    let e : cond {A = ℕ} (eqb (w n) 0) 0 1 ≡ 0 = ap (λ (x : ℕ). cond {A = ℕ} (eqb x 0) 0 1) (h n (omega arith)) in
    omega (arith, held_suc w n, held_none w n (λ c l. h c (omega arith)), e)

-- a put on a code below n adds to the sum below n
pub below_added : (w : ℕ → ℕ) (c a n : ℕ) → c < n → below (added w c a) n ≡ below w n + a
below_added w c a zero h = omega arith
below_added w c a (suc n) h = ⊎_elim
    (λ l. let e : added w c a n ≡ w n = grind (arith, nat_tests) in
    omega (arith, below_added w c a n l, below_suc w n, below_suc (added w c a) n, e))
    (λ l. let e : added w c a n ≡ w n + a = grind (arith, nat_tests) in
    let s : below (added w c a) n ≡ below w n = below_same (added w c a) w n (λ d k. grind (arith, nat_tests)) in
    omega (arith, below_suc w n, below_suc (added w c a) n, e, s))
    (cases_lt c n)

-- and one code more has weight, unless it had
pub held_added : (w : ℕ → ℕ) (c a n : ℕ) → c < n → 0 < a → held (added w c a) n ≡ held w n + cond (eqb (w c) 0) 1 0
held_added w c a zero h p = omega arith
held_added w c a (suc n) h p = ⊎_elim
    (λ l. let e : added w c a n ≡ w n = grind (arith, nat_tests) in
    let k : cond {A = ℕ} (eqb (added w c a n) 0) 0 1 ≡ cond (eqb (w n) 0) 0 1 = ap (λ (x : ℕ). cond {A = ℕ} (eqb x 0) 0 1) e in
    omega (arith, held_added w c a n l p, held_suc w n, held_suc (added w c a) n, k))
    (λ l. let e : c ≡ n = omega arith in
    let s : held (added w c a) n ≡ held w n = held_same (added w c a) w n (λ d k. grind (arith, nat_tests)) in
    let k : cond {A = ℕ} (eqb (added w c a n) 0) 0 1 ≡ 1 = grind (arith, nat_tests) in
    let t : cond {A = ℕ} (eqb (w n) 0) 0 1 + cond {A = ℕ} (eqb (w c) 0) 1 0 ≡ 1 = grind (arith, nat_tests) in
    omega (arith, held_suc w n, held_suc (added w c a) n, s, k, t))
    (cases_lt c n)

-- no summand larger, no larger sum
pub below_le : (f g : ℕ → ℕ) (n : ℕ) → ((i : ℕ) → i < n → f i ≤ g i) → below f n ≤ below g n
below_le f g zero h = omega (arith, below_zero f)
below_le f g (suc n) h = omega (arith, below_suc f n, below_suc g n, below_le f g n (λ i l. h i (omega arith)), h n (omega arith))

-- nothing is added from m on
pub below_cut : (f g : ℕ → ℕ) (m n : ℕ) → m ≤ n → ((i : ℕ) → i < m → f i ≡ g i) → ((i : ℕ) → m ≤ i → i < n → f i ≡ 0) → below f n ≡ below g m
below_cut f g m zero le same none = let e : m ≡ 0 = omega arith in rw e (below_zero f ∙ sym (below_zero g))
below_cut f g m (suc n) le same none = ⊎_elim
    (λ (l : m < suc n). omega (arith, below_suc f n, none n (omega arith) (omega arith), below_cut f g m n (omega arith) same (λ i a b. none i a (omega arith))))
    (λ (l : suc n ≤ m). let e : m ≡ suc n = omega arith in rw e (below_same f g (suc n) (λ i b. same i (omega arith))))
    (cases_lt m (suc n))

-- one summand more, at any place
pub below_inserted : (f g : ℕ → ℕ) (n at x : ℕ) → at ≤ n → ((i : ℕ) → i < at → g i ≡ f i) → g at ≡ x → ((i : ℕ) → at ≤ i → i < n → g (suc i) ≡ f i) → below g (suc n) ≡ below f n + x
below_inserted f g zero at x le front here back =
    let e : at ≡ 0 = omega arith in
    let h : g 0 ≡ x = ap g (sym e) ∙ here in
    omega (arith, below_suc g 0, below_zero g, below_zero f, h)
below_inserted f g (suc m) at x le front here back = ⊎_elim
    (λ (l : at < suc m).
    omega (arith, below_suc g (suc m), below_suc f m, back m (omega arith) (omega arith), below_inserted f g m at x (omega arith) front here (λ i a b. back i a (omega arith))))
    (λ (l : suc m ≤ at).
    let e : at ≡ suc m = omega arith in
    let h : g (suc m) ≡ x = ap g (sym e) ∙ here in
    omega (arith, below_suc g (suc m), h, below_same g f (suc m) (λ i b. front i (omega arith))))
    (cases_lt at (suc m))
