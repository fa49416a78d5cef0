-- A patch laid over plane 0, row by row.
use Rattle.std.proofs.Common.{◌≡◌, ℕ, zero, suc, ◌+◌, ◌-◌, ◌*◌, ◌<◌, ◌≤◌, List, map, length, get_or, take, drop, None, sym, refl, ap, ◌∙◌, inl, inr, suc-mul, arith}
use Rattle.std.proofs.lemmas.List.{length-map, length-take-le, length-drop, get_or-map, get_or-take, get_or-drop}
use Rattle.std.proofs.lemmas.Bool.{cases_eq, cond-true, cond-false}
use Rattle.planes.specs.declared.size.Size.{Size}
use Rattle.planes.specs.Sizes.{area, cell, start}
use Rattle.areas.specs.Rects.{Holds}
use Rattle.stages.specs.Planes.{blank, overwritten}
use Rattle.stages.specs.Stages.{Picture}
use Rattle.filters.specs.Morphology.{On}
use Rattle.tones.specs.Kind.{Kind, Laws}
use Rattle.calls.specs.Outcomes.{laid, rectangle}
use Rattle.calls.specs.History.{holds, plane, painted}
use Rattle.calls.proofs.Pixels.{cases_holds, true_holds, false_holds}
use Rattle.calls.proofs.Written.{plane_within, written_length, written_in, written_out}
use Rattle.calls.proofs.Rightness.{Agrees, SamePlane}

-- n rows, w wide, from row y on lie on the card, and there are tones enough for them
pub record RowsFit (size : Size) (y w count n : ℕ) : Type 0 where
  pub down : y + n ≤ size.height
  pub enough : n * w ≤ count

fewer_fit : (size : Size) (y w count n : ℕ) → RowsFit size y w count (suc n) → RowsFit size y w count n
fewer_fit size y w count n i = record { down = omega arith; enough = omega (arith, suc-mul n w) }

module _ {T R : Type 0} (K : Kind T R) (law : Laws K) (size : Size) (most x y w : ℕ) (tones m : List R) (across : x + w ≤ size.width) (long : length m ≡ start size (suc most)) where
  -- row n of the patch as it is written
  abbrev stretch : ℕ → List R
  stretch n = map (λ r. K.row (K.counted r)) (take w (drop (n * w) tones))

  piece_length : (n : ℕ) → RowsFit size y w (length tones) (suc n) → length (take w (drop (n * w) tones)) ≡ w
  piece_length n i = length-take-le w (drop (n * w) tones) (omega (arith, length-drop (n * w) tones, suc-mul n w))

  stretch_length : (n : ℕ) → RowsFit size y w (length tones) (suc n) → length (stretch n) ≡ w
  stretch_length n i = length-map (take w (drop (n * w) tones)) (λ r. K.row (K.counted r)) ∙ piece_length n i

  abbrev rows_laid : ℕ → List R
  rows_laid n = laid K size x y w tones m n

  row_laid : (n : ℕ) → rows_laid (suc n) ≡ overwritten (rows_laid n) (start size 0 + cell size x (y + n)) (stretch n)
  unfolding laid
  row_laid n = let e : cell size x (y + n) ≡ start size 0 + cell size x (y + n) = omega arith in ap (λ k. overwritten (rows_laid n) k (stretch n)) e

  -- one row more
  module _ (n : ℕ) (i : RowsFit size y w (length tones) (suc n)) (same : length (rows_laid n) ≡ length m) where
    row_across : x + length (stretch n) ≤ size.width
    row_across = omega (arith, stretch_length n i)

    row_down : y + n < size.height
    row_down = omega arith

    row_room : start size 0 + area size ≤ length (rows_laid n)
    row_room = plane_within size 0 most (length (rows_laid n)) (omega arith) (same ∙ long)

    more_length : length (rows_laid (suc n)) ≡ length (rows_laid n)
    more_length = ap length (row_laid n) ∙ written_length size 0 x (y + n) (rows_laid n) (stretch n) row_across row_down row_room

    -- has its tones
    more_in : (u : ℕ) → x ≤ u → u < x + w → plane K size 0 (rows_laid (suc n)) u (y + n) ≡ K.counted (get_or tones (n * w + (u - x)) (blank K))
    more_in u p q =
        let piece = take w (drop (n * w) tones) in
        ap (λ l. plane K size 0 l u (y + n)) (row_laid n)
        ∙ (ap K.counted (written_in size 0 x (y + n) (rows_laid n) (stretch n) row_across row_down row_room u (blank K) p (omega (arith, stretch_length n i))
        ∙ get_or-map (λ r. K.row (K.counted r)) piece (u - x) (blank K) (blank K) (omega (arith, piece_length n i)))
        ∙ (law.laid (K.counted (get_or piece (u - x) (blank K)))
        ∙ ap K.counted (get_or-take w (drop (n * w) tones) (u - x) (blank K) (omega arith) ∙ get_or-drop (n * w) tones (u - x) (blank K))))

    -- and every other pixel stays
    more_out : (j u v : ℕ) → On size u v → (j ≡ 0 → v ≡ y + n → x ≤ u → u < x + w → ⊥) → plane K size j (rows_laid (suc n)) u v ≡ plane K size j (rows_laid n) u v
    more_out j u v on other =
        ap (λ l. plane K size j l u v) (row_laid n)
        ∙ ap K.counted (written_out size 0 x (y + n) (rows_laid n) (stretch n) row_across row_down row_room j u v (blank K) on.0 on.1
        (record { other = λ e f p q. other e f p (omega (arith, stretch_length n i)) }))

  pub laid_length : (n : ℕ) → RowsFit size y w (length tones) n → length (rows_laid n) ≡ length m
  unfolding laid
  laid_length zero i = refl
  laid_length (suc n) i = let same = laid_length n (fewer_fit size y w (length tones) n i) in more_length n i same ∙ same

  -- a pixel outside the patch, or of another plane, stays
  pub laid_out : (n : ℕ) → RowsFit size y w (length tones) n → (j u v : ℕ) → On size u v → (j ≡ 0 → Holds (rectangle x y w n) u v → ⊥) → plane K size j (rows_laid n) u v ≡ plane K size j m u v
  unfolding laid
  laid_out zero i j u v on other = refl
  laid_out (suc n) i j u v on other =
      more_out n i (laid_length n (fewer_fit size y w (length tones) n i)) j u v on (λ e f p q. other e (record { from_left = p; to_right = q; from_top = omega arith; to_bottom = omega arith }))
      ∙ laid_out n (fewer_fit size y w (length tones) n i) j u v on (λ e h. other e (record { from_left = h.from_left; to_right = h.to_right; from_top = h.from_top; to_bottom = omega arith }))

  -- a pixel of the patch has its tone
  pub laid_in : (n : ℕ) → RowsFit size y w (length tones) n → (u v : ℕ) → On size u v → Holds (rectangle x y w n) u v → plane K size 0 (rows_laid n) u v ≡ K.counted (get_or tones ((v - y) * w + (u - x)) (blank K))
  laid_in zero i u v on h = absurd (omega arith)
  laid_in (suc n) i u v on h = elim (cases_eq v (y + n)) [
    | inl e ↦
        let k : n ≡ v - y = omega arith in
        ap (plane K size 0 (rows_laid (suc n)) u) e
        ∙ (more_in n i (laid_length n (fewer_fit size y w (length tones) n i)) u h.from_left h.to_right
        ∙ ap (λ k. K.counted (get_or tones (k * w + (u - x)) (blank K))) k)
    | inr d ↦
        more_out n i (laid_length n (fewer_fit size y w (length tones) n i)) 0 u v on (λ e f p q. d f)
        ∙ laid_in n (fewer_fit size y w (length tones) n i) u v on (record { from_left = h.from_left; to_right = h.to_right; from_top = h.from_top; to_bottom = omega arith })
  ]

  -- plane 0 is painted
  pub laid_painted : (n : ℕ) → RowsFit size y w (length tones) n → (f : Picture T) → Agrees K size 0 f None m → Agrees K size 0 (painted K (rectangle x y w n) tones f) None (rows_laid n)
  laid_painted n i f raw u v on out = elim (cases_holds (rectangle x y w n) u v) [
    | inl h ↦
        let e : w ≡ x + w - x = omega arith in
        laid_in n i u v on h
        ∙ (ap (λ k. K.counted (get_or tones ((v - y) * k + (u - x)) (blank K))) e
        ∙ sym (cond-true (holds (rectangle x y w n) u v) _ (f u v) (true_holds (rectangle x y w n) u v h)))
    | inr h ↦
        laid_out n i 0 u v on (λ e. h)
        ∙ (raw u v on out
        ∙ sym (cond-false (holds (rectangle x y w n) u v) _ (f u v) (false_holds (rectangle x y w n) u v h)))
  ]

  -- and the planes above stay
  pub laid_above : (n : ℕ) → RowsFit size y w (length tones) n → (j : ℕ) → 0 < j → SamePlane K size j m (rows_laid n)
  laid_above n i j some u v on = laid_out n i j u v on (λ e h. omega arith)
