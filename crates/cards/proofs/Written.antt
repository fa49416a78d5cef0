-- A patch is laid row by row.
use Rattle.std.proofs.Common.{◌≡◌, ℕ, suc, ◌+◌, ◌-◌, ◌*◌, ◌<◌, ◌≤◌, min, List, ◌++◌, map, length, take, drop, sym, refl, ap, ◌∙◌, ⊎_elim, mul-le-mul_right, suc-mul, mul_comm, add-one, arith}
use Rattle.std.proofs.lemmas.Bool.{cases_lt}
use Rattle.std.proofs.lemmas.List.{length-drop, take_at, drop_at, drop-drop}
use borrow.Rule.Slice.PartMut.{put_mid}
use Rattle.planes.specs.declared.size.Size.{Size}
use Rattle.planes.specs.Sizes.{cell}
use Rattle.stages.specs.Planes.{overwritten}
use Rattle.tones.specs.Kind.{Kind}
use Rattle.calls.specs.Outcomes.{laid}

-- no row, then one row more
pub laid_none : {T R : Type 0} (K : Kind T R) (size : Size) (x y w : ℕ) (tones m : List R) → laid K size x y w tones m 0 ≡ m
unfolding laid
laid_none K size x y w tones m = refl

pub laid_more : {T R : Type 0} (K : Kind T R) (size : Size) (x y w : ℕ) (tones m : List R) (n at : ℕ) (before after row : List R) → before ≡ laid K size x y w tones m n → at ≡ cell size x (y + n) → row ≡ take w (drop (n * w) tones) → after ≡ overwritten before at (map (λ r. K.row (K.counted r)) row) → after ≡ laid K size x y w tones m (n + 1)
unfolding laid
laid_more K size x y w tones m n at before after row p q r e =
    let step : overwritten before at (map (λ r. K.row (K.counted r)) row) ≡ laid K size x y w tones m (suc n) = simp (p, q, r) in
    e ∙ (step ∙ sym (ap (laid K size x y w tones m) (add-one n)))

-- row i of n rows ends within them
pub row_within : (i w n : ℕ) → i < n → i * w + w ≤ w * n
row_within i w n h = let e = mul-le-mul_right w h in omega (arith, e, suc-mul i w, mul_comm n w)

-- the next row of a patch, and the tones left after it
pub record NextRow {R : Type 0} (tones row later : List R) (n w : ℕ) : Type 0 where
  pub next : row ≡ take w (drop (n * w) tones)
  pub long : length row ≡ w
  pub rest : later ≡ drop ((n + 1) * w) tones

pub next_row : {R : Type 0} (tones rest row later : List R) (w n height : ℕ) → length tones ≡ w * height → n < height → rest ≡ drop (n * w) tones → rest ≡ row ++ later → {size : ℕ} → size ≡ w → length row ≡ min size (length rest) → NextRow tones row later n w
next_row tones rest row later w n height count h is parts cut long =
    let wide : length row ≡ w = omega (arith, long, cut, ap length is, length-drop (n * w) tones, count, row_within n w height h) in
    let next : n * w + w ≡ (n + 1) * w = omega (arith, suc-mul n w, ap (λ i. i * w) (add-one n)) in
    record {
      next = sym (take_at row later w wide) ∙ ap (take w) (sym parts ∙ is);
      long = wide;
      rest = sym (drop_at row later w wide) ∙ (ap (drop w) (sym parts ∙ is) ∙ (drop-drop w (n * w) tones ∙ ap (λ i. drop i tones) next));
    }

-- no tones are left once every row came
pub rows_came : {R : Type 0} (tones : List R) (w n height : ℕ) → 1 ≤ w → length tones ≡ w * height → length (drop (n * w) tones) ≡ 0 → height ≤ n
rows_came tones w n height wide count none =
    ⊎_elim (λ h. absurd (omega (arith, h, wide, count, none, length-drop (n * w) tones, row_within n w height h))) (λ h. h) (cases_lt n height)

-- a part of the memory is written over
pub put_over : {R : Type 0} (m new part : List R) (at n : ℕ) → new ≡ part → n ≡ length part → put_mid at (at + n - at) m new ≡ overwritten m at part
put_over m new part at n e l =
    let k : at + n - at ≡ length part = omega (arith, l) in
    ap (λ ys. put_mid at (at + n - at) m ys) e ∙ ap (λ d. take at m ++ (part ++ d)) (drop-drop (at + n - at) at m ∙ ap (λ j. drop (at + j) m) k)
