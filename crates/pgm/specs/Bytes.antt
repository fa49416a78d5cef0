-- The bytes that the format names. Assumes nothing.
use Rattle.std.specs.Prelude.{ℕ, Bool, ◌&&◌, ◌||◌, ◌==◌, nat_le}

-- what ends a comment: line feed or carriage return
abbrev pub line_end : ℕ → Bool
line_end b = b == 10 || b == 13

-- white space: tab, line feed, carriage return, space
abbrev pub white : ℕ → Bool
white b = b == 9 || b == 32 || line_end b

-- 0 to 9
abbrev pub digit : ℕ → Bool
digit b = nat_le 48 b && nat_le b 57
