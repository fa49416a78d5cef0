-- Worked examples of patches of more than one pixel. Assumes nothing.
use Rattle.std.specs.Prelude.{◌≡◌, ℕ, List, [], ◌∷◌, ◌++◌, replicate}
use Rattle.calls.specs.Calls.Answer.{Done}
use Rattle.calls.specs.Calls.Call.{Patch}
use Rattle.calls.specs.Calls.{Call}
use Rattle.calls.specs.History.{noted, raw}
use Rattle.tones.specs.Greys.{greys}
use Rattle.cases.specs.Samples.{after, answer, card, fresh_card, nine}

-- on the card 10 20 30 / 40 50 60 / 70 80 90 with nothing installed a call is done, and the raw
-- card is then these nine tones, in plane 0 of the memory and by the rules
pub record Lays (w : ℕ → ℕ) (c : Call ℕ) (tones : List ℕ) : Type 0 where
  pub done : answer (fresh_card w) c ≡ Done
  pub memory : (after (fresh_card w) c).memory ≡ tones ++ replicate 9 0
  pub rules : nine (raw greys card (noted c Done [])) ≡ tones

-- patches from column 1 and row 0 on
pub record PatchExamples (w : ℕ → ℕ) : Type 0 where
  -- two pixels beside each other with 7 8: 10 7 8 / 40 50 60 / 70 80 90
  pub beside :
      Lays w (Patch 1 0 2 1 (7 ∷ 8 ∷ [])) (10 ∷ 7 ∷ 8 ∷ 40 ∷ 50 ∷ 60 ∷ 70 ∷ 80 ∷ 90 ∷ [])
  -- two pixels below each other with 7 8: 10 7 30 / 40 8 60 / 70 80 90
  pub below :
      Lays w (Patch 1 0 1 2 (7 ∷ 8 ∷ [])) (10 ∷ 7 ∷ 30 ∷ 40 ∷ 8 ∷ 60 ∷ 70 ∷ 80 ∷ 90 ∷ [])
  -- four pixels with 1 2 3 4, row by row: 10 1 2 / 40 3 4 / 70 80 90
  pub square :
      Lays w (Patch 1 0 2 2 (1 ∷ 2 ∷ 3 ∷ 4 ∷ [])) (10 ∷ 1 ∷ 2 ∷ 40 ∷ 3 ∷ 4 ∷ 70 ∷ 80 ∷ 90 ∷ [])
