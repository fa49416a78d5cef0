-- What holds of every bag, range and rank. Assumes nothing.
use Rattle.std.specs.Prelude.{◌≡◌, ℕ, ◌<◌, Ok, Result}
use Rattle.selectors.specs.declared.refusals.SelectRefusal.{SelectRefusal}
use Rattle.selectors.specs.Calls.{Selected}

-- a rank has exactly one answer
abbrev pub OneAnswer : Type 0
OneAnswer =
    (w : ℕ → ℕ) (R r : ℕ)
    → (x : Result ℕ SelectRefusal)
    × Selected w R r x
    × ((y : Result ℕ SelectRefusal) → Selected w R r y → y ≡ x)

-- a code that is answered is below the range and has weight
abbrev pub AnswerHasWeight : Type 0
AnswerHasWeight = (w : ℕ → ℕ) (R r c : ℕ) → Selected w R r (Ok c) → (c < R) × (0 < w c)
