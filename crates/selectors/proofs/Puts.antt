-- What refuses a put, cause by cause. Assumes nothing.
use Rattle.std.proofs.Common.{◌≡◌, ℕ, ◌+◌, ◌<◌, ◌≤◌, eqb, leb, ◌⊎◌, Some, None, ⊎_elim, arith}
use Rattle.std.proofs.lemmas.Bool.{ne_eqb, eq-eqb, le-ltb, lt-ltb, le-leb, lt-leb, and_from, and_left, and_right, or_from}
use Rattle.selectors.specs.Bag.{below, held}
use Rattle.selectors.specs.Calls.{put_refusal}

-- 64 codes have weight, and c has none
pub put_full : (w : ℕ → ℕ) (R c a : ℕ) → 0 < a → c < R
    → 64 ≤ held w R
    → w c ≡ 0
    → put_refusal w R c a ≡ Some 3
put_full w R c a pos lt full none =
    let fit = or_from (eqb a 0) (leb R c) (ne_eqb a 0 (λ e. omega arith)) (lt-leb R c lt) in
    let more = and_from (leb 64 (held w R)) (eqb (w c) 0) (le-leb 64 (held w R) full) (eq-eqb (w c) 0 none) in
    rw (fit, more)

-- there is room for c, and the total would pass 65,535
pub put_heavy : (w : ℕ → ℕ) (R c a : ℕ) → 0 < a → c < R
    → (held w R < 64) ⊎ (0 < w c)
    → 65535 < below w R + a
    → put_refusal w R c a ≡ Some 4
put_heavy w R c a pos lt room heavy =
    let fit = or_from (eqb a 0) (leb R c) (ne_eqb a 0 (λ e. omega arith)) (lt-leb R c lt) in
    let more = ⊎_elim (λ (l : held w R < 64). and_left (leb 64 (held w R)) (eqb (w c) 0) (lt-leb 64 (held w R) l)) (λ (l : 0 < w c). and_right (leb 64 (held w R)) (eqb (w c) 0) (ne_eqb (w c) 0 (λ e. omega arith))) room in
    rw (fit, more, lt-ltb 65535 (below w R + a) heavy)

-- no cause stands
pub put_taken : (w : ℕ → ℕ) (R c a : ℕ) → 0 < a → c < R
    → (held w R < 64) ⊎ (0 < w c)
    → below w R + a ≤ 65535
    → put_refusal w R c a ≡ None
put_taken w R c a pos lt room light =
    let fit = or_from (eqb a 0) (leb R c) (ne_eqb a 0 (λ e. omega arith)) (lt-leb R c lt) in
    let more = ⊎_elim (λ (l : held w R < 64). and_left (leb 64 (held w R)) (eqb (w c) 0) (lt-leb 64 (held w R) l)) (λ (l : 0 < w c). and_right (leb 64 (held w R)) (eqb (w c) 0) (ne_eqb (w c) 0 (λ e. omega arith))) room in
    rw (fit, more, le-ltb 65535 (below w R + a) light)
