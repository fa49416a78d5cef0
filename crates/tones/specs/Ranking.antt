-- How many tones of a list are at least a given one. Assumes nothing.
use Rattle.std.specs.Prelude.{ℕ, Bool, List, count_by, nat_le}
use Rattle.tones.specs.Kind.{Kind}

-- whether a row counts as a tone of code c or above
abbrev pub at_or_above : {T Row : Type 0} → Kind T Row → ℕ → Row → Bool
at_or_above k c row = nat_le c (k.code (k.counted row))

-- how many rows of a list do
abbrev pub at_least : {T Row : Type 0} → Kind T Row → ℕ → List Row → ℕ
at_least k c rows = count_by (at_or_above k c) rows
