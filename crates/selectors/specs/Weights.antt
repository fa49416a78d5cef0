-- What each code weighs in a selector, and in the list that the gate and the ladder keep. Assumes
-- nothing.
use Rattle.std.specs.Prelude.{ℕ, slice_index}
use Rattle.selectors.specs.declared.entries.Entries.{Entries}
use Rattle.selectors.specs.declared.gate.Gate.{Gate}
use Rattle.selectors.specs.declared.histogram.Histogram.{Histogram}
use Rattle.selectors.specs.declared.ladder.Ladder.{Ladder}
use Rattle.selectors.specs.Entries.{weigh}

abbrev pub entries_weight : Entries → ℕ → ℕ
entries_weight s = weigh s.places s.count

abbrev pub gate_weight : Gate → ℕ → ℕ
gate_weight s = entries_weight s.entries

abbrev pub histogram_weight : Histogram → ℕ → ℕ
histogram_weight s c = slice_index s.weights c

abbrev pub ladder_weight : Ladder → ℕ → ℕ
ladder_weight s = entries_weight s.entries
