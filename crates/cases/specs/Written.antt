-- Worked examples of files that cards write. Assumes nothing.
use Rattle.std.specs.Prelude.{◌≡◌, ℕ, List, [], ◌∷◌, ◌++◌, codes, replicate}
use Rattle.calls.specs.Calls.Answer.{Number, Refused, Met}
use Rattle.cards.specs.Writing.{Writes}
use Rattle.pgm.specs.Raw.{raw_header}
use Rattle.recipes.specs.declared.draft.Draft.{Draft}
use Rattle.cases.specs.Refused.{too_short, without_size}
use Rattle.cases.specs.Samples.{after, corner, fresh_card, one_stage}

-- the file of the card 10 20 30 / 40 50 60 / 70 80 90: `P5`, its size, the maxval, its greys
abbrev pub raw_three : List ℕ
raw_three =
    80 ∷ 53 ∷ 10 ∷ 51 ∷ 32 ∷ 51 ∷ 10 ∷ 50 ∷ 53 ∷ 53 ∷ 10
    ∷ 10 ∷ 20 ∷ 30 ∷ 40 ∷ 50 ∷ 60 ∷ 70 ∷ 80 ∷ 90 ∷ []

-- the file of the same card, eroded by the cross of order 2
abbrev pub cleaned_three : List ℕ
cleaned_three =
    80 ∷ 53 ∷ 10 ∷ 51 ∷ 32 ∷ 51 ∷ 10 ∷ 50 ∷ 53 ∷ 53 ∷ 10
    ∷ 10 ∷ 20 ∷ 30 ∷ 40 ∷ 40 ∷ 50 ∷ 70 ∷ 70 ∷ 80 ∷ []

-- so many bytes of 7
abbrev pub sevens : ℕ → List ℕ
sevens n = replicate n 7

-- the headers of some sizes: the number of digits changes
pub record HeaderExamples : Type 0 where
  pub one : raw_header 1 1 ≡ codes "P5\n1 1\n255\n"
  pub nine : raw_header 9 9 ≡ codes "P5\n9 9\n255\n"
  pub ten : raw_header 10 10 ≡ codes "P5\n10 10\n255\n"
  pub hundred : raw_header 100 100 ≡ codes "P5\n100 100\n255\n"
  pub largest : raw_header 1024 256 ≡ codes "P5\n1024 256\n255\n"

-- the card with one stage, E of the cross, nothing stale; then with the tone t patched at its corner
pub record FileExamples (d : Draft) (w : ℕ → ℕ) (t : ℕ) : Type 0 where
  -- 20 bytes are just enough, of 23 the last three stay, and 19 are refused with 24
  pub enough : Writes (one_stage w d) (sevens 20) (Number 20) cleaned_three
  pub more : Writes (one_stage w d) (sevens 23) (Number 20) (cleaned_three ++ sevens 3)
  pub fewer : Writes (one_stage w d) (sevens 19) (Refused 24) (sevens 19)
  -- with a row stale a write is refused with column 0, whatever it is lent
  pub stale : (lent : List ℕ) → Writes (after (one_stage w d) (corner t)) lent (Met 0) lent
  -- with an empty recipe the file is that of the raw card
  pub raw : Writes (fresh_card w) (sevens 20) (Number 20) raw_three
  -- without a size it is refused with 16, with memory of another length with 14
  pub no_size : (lent : List ℕ) → Writes (without_size w) lent (Refused 16) lent
  pub wrong_memory : (lent : List ℕ) → Writes (too_short w) lent (Refused 14) lent
