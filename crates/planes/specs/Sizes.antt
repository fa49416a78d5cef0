-- The size of a card, and where its planes and pixels lie. Assumes nothing.
use Rattle.std.specs.Prelude.{ℕ, ◌+◌, ◌*◌, ◌≤◌}
use Rattle.planes.specs.declared.size.Size.{Size}
use Rattle.planes.specs.declared.frame.TheConstants.{MOST_HEIGHT, MOST_WIDTH}

-- a width from 1 to 1,024 and a height from 1 to 256
pub record Limits (s : Size) : Type 0 where
  pub wide : 1 ≤ s.width
  pub not_too_wide : s.width ≤ MOST_WIDTH
  pub high : 1 ≤ s.height
  pub not_too_high : s.height ≤ MOST_HEIGHT

-- how many pixels there are
abbrev pub area : Size → ℕ
area s = s.width * s.height

-- plane j begins at j × width × height
abbrev pub start : Size → ℕ → ℕ
start s j = j * area s

-- a plane lies row by row, each row from the left
abbrev pub cell : Size → ℕ → ℕ → ℕ
cell s x y = y * s.width + x
