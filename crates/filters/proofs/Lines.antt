-- The rows of a plane, written one after the other. Assumes nothing.
use Rattle.std.proofs.Common.{◌≡◌, ℕ, zero, suc, ◌+◌, ◌-◌, ◌*◌, ◌<◌, ◌≤◌, ltb, List, [], ◌∷◌, ◌++◌, length, sym, refl, ap, ◌∙◌, ap₂, mul-le-mul_right, suc-mul, mul_comm, add-one, arith}
use Rattle.std.proofs.lemmas.List.{length-append}
use Rattle.std.proofs.lemmas.Bool.{cond-true, lt-ltb}
use Rattle.planes.specs.declared.size.Size.{Size}
use Rattle.planes.specs.Sizes.{area, start, cell}
use Rattle.recipes.specs.declared.recipe.Stage.{Stage}
use Rattle.stages.specs.Planes.{picture, line, overwritten}
use Rattle.stages.specs.Rows.{picture_made, row_made, row_weights}
use Rattle.stages.specs.Stages.{Picture, bag}
use Rattle.stages.proofs.Lines.{line_length, overwritten_none, overwritten_same}
use Rattle.stages.proofs.Pictures.{bag_same, cleaned_same}
use Rattle.tones.specs.Kind.{Kind}
use Rattle.filters.specs.Restaging.{lines, rows_made}
use Rattle.filters.proofs.Overwriting.{overwritten_on}

-- a plane ends where the next begins
pub plane_end : (size : Size) (j : ℕ) → start size (j + 1) ≡ start size j + area size
plane_end size j = omega (arith, ap (λ k. k * area size) (add-one j), suc-mul j (area size))

module _ {T R : Type 0} (K : Kind T R) where
  -- pictures that agree on a row's stretch have the same rows there
  line_same : (f g : Picture T) (y x n : ℕ) → ((u : ℕ) → f u y ≡ g u y) → line K f y x n ≡ line K g y x n
  unfolding line
  line_same f g y x zero h = refl
  line_same f g y x (suc n) h = ap₂ (λ t r. K.row t ∷ r) (h x) (line_same f g y (suc x) n h)

  module _ (size : Size) where
    lines_none : (f : Picture T) → lines K size f 0 ≡ []
    unfolding lines
    lines_none f = refl

    lines_suc : (f : Picture T) (n : ℕ) → lines K size f (suc n) ≡ lines K size f n ++ line K f n 0 size.width
    unfolding lines
    lines_suc f n = refl

    lines_more : (f : Picture T) (n : ℕ) → lines K size f (n + 1) ≡ lines K size f n ++ line K f n 0 size.width
    lines_more f n = ap (lines K size f) (add-one n) ∙ lines_suc f n

    length_lines : (f : Picture T) (n : ℕ) → length (lines K size f n) ≡ n * size.width
    unfolding lines
    length_lines f zero = omega arith
    length_lines f (suc n) = omega (arith, length-append (lines K size f n) (line K f n 0 size.width), length_lines f n, line_length K f n 0 size.width, suc-mul n size.width)

    -- before the first row
    pub rows_none : (f : Picture T) (i : ℕ) (m : List R) → m ≡ overwritten m i (lines K size f 0)
    rows_none f i m = sym (ap (overwritten m i) (lines_none f) ∙ overwritten_none m i)

    -- while the rows of the later plane are written, the earlier one is as it was
    module _ (s : Stage) (from into : ℕ) (m : List R) (apart : from + area size ≤ into) (room : into + area size ≤ length m) (y : ℕ) (down : y < size.height) where
      row_fits : into + length (lines K size (picture_made K size s from m) y) ≤ length m
      row_fits =
          let h : y ≤ size.height = omega arith in
          omega (arith, room, length_lines (picture_made K size s from m) y, mul-le-mul_right size.width h, mul_comm size.height size.width)

      kept : (a : List R) (u v : ℕ) → u < size.width → v < size.height → picture K size from (overwritten m into a) u v ≡ picture K size from m u v
      kept a = overwritten_same K size from into m a apart (omega (arith, room))

      line_kept : (a : List R) → line K (picture_made K size s from (overwritten m into a)) y 0 size.width ≡ line K (picture_made K size s from m) y 0 size.width
      line_kept a = line_same (picture_made K size s from (overwritten m into a)) (picture_made K size s from m) y 0 size.width (λ x. cleaned_same K size s (picture K size from (overwritten m into a)) (picture K size from m) (kept a) x y)

      row_on : overwritten (rows_made K size s from into m y) (into + cell size 0 y) (line K (picture_made K size s from (rows_made K size s from into m y)) y 0 size.width) ≡ rows_made K size s from into m (y + 1)
      row_on =
          let k : into + cell size 0 y ≡ into + length (lines K size (picture_made K size s from m) y) = omega (arith, length_lines (picture_made K size s from m) y) in
          ap₂ (λ i new. overwritten (rows_made K size s from into m y) i new) k (line_kept (lines K size (picture_made K size s from m) y))
          ∙ (overwritten_on m into (lines K size (picture_made K size s from m) y) (line K (picture_made K size s from m) y 0 size.width) row_fits
          ∙ ap (overwritten m into) (sym (lines_more (picture_made K size s from m) y)))

      module _ (now : List R) (so_far : now ≡ rows_made K size s from into m y) where
        -- a row more
        pub rows_more : (next : List R) → next ≡ row_made K size s from now y 0 size.width into → next ≡ rows_made K size s from into m (y + 1)
        rows_more next is =
            let n : size.width - 0 ≡ size.width = omega arith in
            is
            ∙ (ap (λ k. overwritten now (into + cell size 0 y) (line K (picture_made K size s from now) y 0 k)) n
            ∙ (ap (λ k. overwritten k (into + cell size 0 y) (line K (picture_made K size s from k) y 0 size.width)) so_far
            ∙ row_on))

        -- and the window of its last pixel
        pub window_more : 0 < size.width → (before : ℕ → ℕ) (w c : ℕ) → w ≡ row_weights K size s from now y 0 size.width before c → w ≡ bag K size s (picture K size from m) (size.width - 1) (y + 1 - 1) c
        window_more wide before w c is =
            let n : y ≡ y + 1 - 1 = omega arith in
            is
            ∙ (cond-true (ltb 0 size.width) (bag K size s (picture K size from now) (size.width - 1) y c) (before c) (lt-ltb 0 size.width wide)
            ∙ (ap (λ k. bag K size s (picture K size from k) (size.width - 1) y c) so_far
            ∙ (bag_same K size s (picture K size from (rows_made K size s from into m y)) (picture K size from m) (kept (lines K size (picture_made K size s from m) y)) (size.width - 1) y c
            ∙ ap (λ k. bag K size s (picture K size from m) (size.width - 1) k c) n)))
