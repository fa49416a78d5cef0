-- The memory that a card is opened with. Assumes nothing.
use Rattle.std.specs.Prelude.{ℕ, ◌+◌, ◌*◌, if◌then◌else◌, Some, None, Option}
use Rattle.calls.specs.Opening.{limits}

-- the rows of all planes, and of one
abbrev pub room_of : ℕ → ℕ → ℕ → Option (ℕ × ℕ)
room_of w h g = if limits w h g then Some ((g + 1) * (w * h), w * h) else None
