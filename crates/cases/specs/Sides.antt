-- Worked examples of elements that are not alike on all sides. Assumes nothing.
use Rattle.std.specs.Prelude.{◌≡◌, ℕ, [], ◌∷◌, ◌++◌, Some, None}
use Rattle.areas.specs.Areas.{spread}
use Rattle.calls.specs.Calls.Answer.{Done, Number, Piece, Next, Met}
use Rattle.calls.specs.Calls.Call.{Install, Patch, Work, Row, Left, Due}
use Rattle.calls.specs.Calls.{Call, State}
use Rattle.calls.specs.Outcomes.{drafted, rectangle}
use Rattle.recipes.specs.declared.draft.Draft.{Draft}
use Rattle.cases.specs.Samples.{Each, Makes, after, answer, card_with, cleared, just_opened, left_places, right_places, skew_places, tens, uneven_places, wide, wide_card, wide_eroded, wide_tones}

-- of the card 10 20 30 / 40 50 60 / 70 80 90, with order 1
pub record SideExamples : Type 0 where
  -- with the place (1, 0) a dilation takes the larger of each pixel and its left neighbour, an
  -- erosion the smaller of each pixel and its right neighbour: each leaves this card as it is
  pub right_dilation : Each 68 right_places 1 (Makes tens)
  pub right_erosion : Each 69 right_places 1 (Makes tens)
  -- with the place (-1, 0) a dilation takes the larger of each pixel and its right neighbour:
  -- 20 30 30 / 50 60 60 / 80 90 90
  pub left_dilation :
      Each 68 left_places 1 (Makes (20 ∷ 30 ∷ 30 ∷ 50 ∷ 60 ∷ 60 ∷ 80 ∷ 90 ∷ 90 ∷ []))
  -- and an erosion the smaller of each pixel and its left neighbour: 10 10 20 / 40 40 50 / 70 70 80
  pub left_erosion :
      Each 69 left_places 1 (Makes (10 ∷ 10 ∷ 20 ∷ 40 ∷ 40 ∷ 50 ∷ 70 ∷ 70 ∷ 80 ∷ []))
  -- with the place (1, 0) of amount 25 and the place (0, -1) of amount -20 an erosion takes the
  -- smallest of each pixel, its right neighbour less 25 and its upper neighbour plus 20:
  -- 0 5 30 / 25 35 50 / 55 65 80, where 20 less 25 is held at 0
  pub uneven_erosion :
      Each 69 uneven_places 1 (Makes (0 ∷ 5 ∷ 30 ∷ 25 ∷ 35 ∷ 50 ∷ 55 ∷ 65 ∷ 80 ∷ []))
  -- and a dilation the largest of each pixel, its left neighbour plus 25 and its lower neighbour
  -- less 20: 20 35 45 / 50 65 75 / 70 95 105
  pub uneven_dilation :
      Each 68 uneven_places 1 (Makes (20 ∷ 35 ∷ 45 ∷ 50 ∷ 65 ∷ 75 ∷ 70 ∷ 95 ∷ 105 ∷ []))

-- the patch of the pixel in column 3 and row 2 with the tone t
abbrev pub inner : ℕ → Call ℕ
inner t = Patch 3 2 1 1 (t ∷ [])

-- the card of 5 × 4 pixels just opened
abbrev pub wide_start : (ℕ → ℕ) → State ℕ
wide_start w = just_opened w wide 1 wide_tones

-- a card of 5 × 4 pixels with E of the origin and the place (2, -1), whatever its selector holds
-- and whatever tone is patched
pub record SkewCard (d : Draft) (w : ℕ → ℕ) (t : ℕ) : Type 0 where
  -- an install is done, and a work of 9 redoes the four rows, after which nothing is stale
  pub installs : answer (wide_start w) (Install d) ≡ Done
  pub works : answer (after (wide_start w) (Install d)) (Work 9) ≡ Number 4
  pub notes : (cleared (wide_start w) d).notes ≡ (wide_card w d).notes
  pub planes : (cleared (wide_start w) d).memory ≡ wide_tones ++ wide_eroded
  -- a patch of the pixel (3, 2) makes columns 1 to 4 of rows 1 to 3 stale: two columns on each
  -- side, as far as the card goes, and one row above and below
  pub area :
      (after (wide_card w d) (inner t)).notes
      ≡ (card_with w wide 1 d (Some (rectangle 1 1 4 3) ∷ []) []).notes
  pub left : answer (after (wide_card w d) (inner t)) Left ≡ Number 3
  pub due : answer (after (wide_card w d) (inner t)) Due ≡ Next (Some (1, 1))
  -- rows 1 and 3 are refused with 22 and column 1
  pub first_row : answer (after (wide_card w d) (inner t)) (Row 0 1 5) ≡ Met 1
  pub last_row : answer (after (wide_card w d) (inner t)) (Row 0 3 5) ≡ Met 1
  -- the last pixel of row 1 is refused with column 4
  pub last_column : answer (after (wide_card w d) (inner t)) (Row 4 1 1) ≡ Met 4
  -- the first pixel of row 1, and all of row 0, are handed out
  pub first_column : answer (after (wide_card w d) (inner t)) (Row 0 1 1) ≡ Piece (13 ∷ [])
  pub row_above :
      answer (after (wide_card w d) (inner t)) (Row 0 0 5)
      ≡ Piece (11 ∷ 12 ∷ 13 ∷ 14 ∷ 15 ∷ [])
  -- where the tone is 0, a work of 9 redoes the three rows: rows 2 and 3 of plane 1 are then
  -- 23 24 25 0 35 / 33 0 35 44 45
  pub enough : answer (after (wide_card w d) (inner 0)) (Work 9) ≡ Number 3
  pub row_2 :
      answer (after (after (wide_card w d) (inner 0)) (Work 9)) (Row 0 2 5)
      ≡ Piece (23 ∷ 24 ∷ 25 ∷ 0 ∷ 35 ∷ [])
  pub row_3 :
      answer (after (after (wide_card w d) (inner 0)) (Work 9)) (Row 0 3 5)
      ≡ Piece (33 ∷ 0 ∷ 35 ∷ 44 ∷ 45 ∷ [])

-- with O of the same places a patch of the pixel (4, 3) makes columns 2 to 4 of rows 2 and 3 stale
-- at stage 1, and columns 0 to 4 of rows 1 to 3 at stage 2
pub record SkewAreas (d : Draft) : Type 0 where
  pub both :
      spread wide (drafted d) (rectangle 4 3 1 1) (None ∷ None ∷ [])
      ≡ Some (rectangle 2 2 3 2) ∷ Some (rectangle 0 1 5 3) ∷ []

pub record SkewExamples : Type 0 where
  pub one_stage : Each 69 skew_places 1 (λ d. (w : ℕ → ℕ) (t : ℕ) → SkewCard d w t)
  pub two_stages : Each 79 skew_places 1 SkewAreas
