-- Worked examples of refused calls on a card. Assumes nothing.
use Rattle.std.specs.Prelude.{◌≡◌, ℕ, List, [], ◌∷◌, pos, negsuc, Some, None}
use Rattle.calls.specs.Calls.Answer.{Done, Number, Next, Refused}
use Rattle.calls.specs.Calls.Call.{Install, Patch, Work, Row, Left, Due}
use Rattle.calls.specs.Calls.{Call, State}
use Rattle.calls.specs.Opening.{fresh}
use Rattle.recipes.specs.declared.draft.Draft.{Draft}
use Rattle.cases.specs.Samples.{Each, OCross, after, answer, fresh_card, origin_of, tens}

-- a call on a card in that state is refused with that number, and leaves all as it was
pub record Refuses (st : State ℕ) (c : Call ℕ) (n : ℕ) : Type 0 where
  pub number : answer st c ≡ Refused n
  pub kept : after st c ≡ st

-- a card without size
abbrev pub without_size : (ℕ → ℕ) → State ℕ
without_size w = record { notes = None; weights = w; memory = tens }

-- the card 10 20 30 / 40 50 60 / 70 80 90 for one stage, with memory of 9 tones in place of 18
abbrev pub too_short : (ℕ → ℕ) → State ℕ
too_short w = record { notes = Some (fresh 3 3 1); weights = w; memory = tens }

-- whatever a card's selector holds
pub record RefusalExamples (w : ℕ → ℕ) : Type 0 where
  -- without a size nothing is left or due, and each other call is refused with 16
  pub no_size_patch : Refuses (without_size w) (Patch 0 0 1 1 (7 ∷ [])) 16
  pub no_size_install : (d : Draft) → Refuses (without_size w) (Install d) 16
  pub no_size_work : Refuses (without_size w) (Work 9) 16
  pub no_size_row : Refuses (without_size w) (Row 0 0 1) 16
  pub no_size_left : answer (without_size w) Left ≡ Number 0
  pub no_size_due : answer (without_size w) Due ≡ Next None
  -- with memory of another length each call that takes the memory is refused with 14
  pub length_patch : Refuses (too_short w) (Patch 0 0 1 1 (7 ∷ [])) 14
  pub length_install : (d : Draft) → Refuses (too_short w) (Install d) 14
  pub length_work : Refuses (too_short w) (Work 9) 14
  pub length_row : Refuses (too_short w) (Row 0 0 1) 14
  pub length_left : answer (too_short w) Left ≡ Number 0
  -- a patch or a piece of two columns from the last column on is refused with 17, whatever tones
  -- the patch has, and so is an empty one
  pub outside_patch : (tones : List ℕ) → Refuses (fresh_card w) (Patch 2 0 2 1 tones) 17
  pub outside_row : Refuses (fresh_card w) (Row 2 0 2) 17
  pub empty_patch : Refuses (fresh_card w) (Patch 0 0 0 1 []) 17
  pub empty_row : Refuses (fresh_card w) (Row 0 0 0) 17
  -- a patch of two pixels with one tone or with three is refused with 18
  pub one_tone : Refuses (fresh_card w) (Patch 0 0 2 1 (7 ∷ [])) 18
  pub three_tones : Refuses (fresh_card w) (Patch 0 0 2 1 (7 ∷ 8 ∷ 9 ∷ [])) 18
  -- an opening, which makes two stages, is refused with 20 on a card with room for one
  pub two_stages : (d : Draft) → OCross d → Refuses (fresh_card w) (Install d) 20
  -- an amount of 300 or of -256 is refused with 21 on a card of greys, and 255 is taken
  pub amount_300 : Each 69 (origin_of (pos 300)) 1 (λ d. Refuses (fresh_card w) (Install d) 21)
  pub amount_below : Each 69 (origin_of (negsuc 255)) 1 (λ d. Refuses (fresh_card w) (Install d) 21)
  pub amount_255 : Each 69 (origin_of (pos 255)) 1 (λ d. answer (fresh_card w) (Install d) ≡ Done)
