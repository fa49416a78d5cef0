-- Reading a memory after a stretch of one row of a plane was written over.
use Rattle.std.proofs.Common.{◌≡◌, ℕ, suc, ◌+◌, ◌-◌, ◌*◌, ◌<◌, ◌≤◌, ◌⊎◌, List, ◌++◌, length, get_or, take, drop, ap, ◌∙◌, inl, inr, mul-le-mul_right, suc-mul, mul_comm, arith}
use Rattle.std.proofs.lemmas.List.{length-append, length-drop, length-take-le, get_or_append_left, get_or-append_right, get_or-drop}
use Rattle.std.proofs.lemmas.Bool.{cases_lt, cases_order}
use Rattle.planes.specs.declared.size.Size.{Size}
use Rattle.planes.specs.Sizes.{area, cell, start}
use Rattle.planes.proofs.Cells.{cell_within}
use Rattle.stages.specs.Planes.{overwritten}
use Rattle.stages.proofs.Lines.{overwritten_before}

-- writing over a part keeps the length
pub overwritten_length : {R : Type 0} (m new : List R) (i : ℕ) → i + length new ≤ length m → length (overwritten m i new) ≡ length m
overwritten_length m new i h =
    omega (
      arith,
      length-append (take i m) (new ++ drop (i + length new) m),
      length-append new (drop (i + length new) m),
      length-drop (i + length new) m,
      length-take-le i m (omega arith),
    )

-- what was written stands there
pub overwritten_at : {R : Type 0} (m new : List R) (i k : ℕ) (d : R) → i ≤ length m → k < length new → get_or (overwritten m i new) (i + k) d ≡ get_or new k d
overwritten_at m new i k d h l =
    let e : i + k - i ≡ k = omega arith in
    get_or-append_right (take i m) (new ++ drop (i + length new) m) i (i + k) d (length-take-le i m h) (omega arith)
    ∙ (ap (λ n. get_or (new ++ drop (i + length new) m) n d) e
    ∙ get_or_append_left new (drop (i + length new) m) d k l)

-- what stands after is as it was
pub overwritten_after : {R : Type 0} (m new : List R) (i n : ℕ) (d : R) → i ≤ length m → i + length new ≤ n → get_or (overwritten m i new) n d ≡ get_or m n d
overwritten_after m new i n d h l =
    let e : i + length new + (n - i - length new) ≡ n = omega arith in
    get_or-append_right (take i m) (new ++ drop (i + length new) m) i n d (length-take-le i m h) (omega arith)
    ∙ (get_or-append_right new (drop (i + length new) m) (length new) (n - i) d (omega arith) (omega arith)
    ∙ (get_or-drop (i + length new) m (n - i - length new) d
    ∙ ap (λ k. get_or m k d) e))

-- a lower plane or row lies wholly before a higher one
pub lower_before : (a : ℕ) {i j : ℕ} → i < j → i * a + a ≤ j * a
lower_before a {i} {j} h = omega (arith, mul-le-mul_right a h, suc-mul i a)

-- the planes of a memory, each to its end
pub plane_within : (size : Size) (j most n : ℕ) → j ≤ most → n ≡ start size (suc most) → start size j + area size ≤ n
plane_within size j most n h e = let l : j < suc most = omega arith in omega (arith, lower_before (area size) l)

-- a stretch of a row lies in its plane
pub row_within : (size : Size) (x y n : ℕ) → x + n ≤ size.width → y < size.height → cell size x y + n ≤ area size
row_within size x y n h l = omega (arith, lower_before size.width l, mul_comm size.height size.width)

-- n pixels of row y of plane j from column x on do not have the pixel (u, v) of plane i
pub record Elsewhere (j x y n i u v : ℕ) : Type 0 where
  pub other : i ≡ j → v ≡ y → x ≤ u → u < x + n → ⊥

-- so its place is before or after theirs
pub apart : (size : Size) (j x y n i u v : ℕ) → x + n ≤ size.width → y < size.height → u < size.width → v < size.height → Elsewhere j x y n i u v →
    (start size i + cell size u v < start size j + cell size x y) ⊎ (start size j + cell size x y + n ≤ start size i + cell size u v)
apart size j x y n i u v across down on-x on-y other = elim (cases_order i j) [
  | inl e ↦ elim (cases_order v y) [
    | inl f ↦ elim (cases_lt u x) [
      | inl l ↦ inl (rw (e, f) (omega arith))
      | inr l ↦ elim (cases_lt u (x + n)) [
        | inl k ↦ absurd (other.other e f l k)
        | inr k ↦ inr (rw (e, f) (omega arith))
      ]
    ]
    | inr (inl f) ↦ inl (rw e (omega (arith, lower_before size.width f)))
    | inr (inr f) ↦ inr (rw e (omega (arith, lower_before size.width f)))
  ]
  | inr (inl e) ↦ inl (omega (arith, lower_before (area size) e, cell_within size u v on-x on-y))
  | inr (inr e) ↦ inr (omega (arith, lower_before (area size) e, row_within size x y n across down))
]

-- a list written over row y of plane j from column x on, in a memory that has the whole plane
module _ {R : Type 0} (size : Size) (j x y : ℕ) (m new : List R) (across : x + length new ≤ size.width) (down : y < size.height) (room : start size j + area size ≤ length m) where
  -- keeps the length
  pub written_length : length (overwritten m (start size j + cell size x y) new) ≡ length m
  written_length = overwritten_length m new (start size j + cell size x y) (omega (arith, row_within size x y (length new) across down))

  -- stands where it was written
  pub written_in : (u : ℕ) (d : R) → x ≤ u → u < x + length new → get_or (overwritten m (start size j + cell size x y) new) (start size j + cell size u y) d ≡ get_or new (u - x) d
  written_in u d p q =
      let e : start size j + cell size u y ≡ start size j + cell size x y + (u - x) = omega arith in
      ap (λ n. get_or (overwritten m (start size j + cell size x y) new) n d) e
      ∙ overwritten_at m new (start size j + cell size x y) (u - x) d (omega (arith, row_within size x y (length new) across down)) (omega arith)

  -- leaves every other pixel of every plane
  pub written_out : (i u v : ℕ) (d : R) → u < size.width → v < size.height → Elsewhere j x y (length new) i u v →
      get_or (overwritten m (start size j + cell size x y) new) (start size i + cell size u v) d ≡ get_or m (start size i + cell size u v) d
  written_out i u v d p q other =
      let front : start size j + cell size x y ≤ length m = omega (arith, row_within size x y (length new) across down) in
      elim (apart size j x y (length new) i u v across down p q other) [
        | inl l ↦ overwritten_before m new (start size j + cell size x y) (start size i + cell size u v) d l front
        | inr l ↦ overwritten_after m new (start size j + cell size x y) (start size i + cell size u v) d front l
      ]
