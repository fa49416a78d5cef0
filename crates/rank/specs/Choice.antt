-- What the chosen selector means. Assumes nothing.
use Rattle.std.specs.Prelude.{ℕ}
use Rattle.selectors.specs.contracts.gate.GateSelector.TheImpl as gate
use Rattle.selectors.specs.contracts.histogram.HistogramSelector.TheImpl as histogram
use Rattle.selectors.specs.contracts.ladder.LadderSelector.TheImpl as ladder
use Rattle.selectors.specs.declared.calls.SelectorKind.{SelectorKind}
use Rattle.selectors.specs.declared.calls.SelectorKind.TheVariants.{Gate, Histogram, Ladder}
use Rattle.selectors.specs.declared.histogram.TheConstants.{RANGE}
use Rattle.selectors.specs.declared.limits.TheConstants.{WIDE_RANGE}
use Rattle.rank.specs.declared.chosen.Chosen.{Chosen}
use Rattle.rank.specs.declared.chosen.Chosen.TheVariants.{OfGate, OfHistogram, OfLadder}

-- what a code weighs in it
abbrev pub chosen_weight : Chosen → ℕ → ℕ
chosen_weight (OfGate s) = (gate.ghosts).weight s
chosen_weight (OfHistogram s) = (histogram.ghosts).weight s
chosen_weight (OfLadder s) = (ladder.ghosts).weight s

-- its codes are below this
abbrev pub chosen_range : Chosen → ℕ
chosen_range (OfGate s) = (gate.ghosts).range s
chosen_range (OfHistogram s) = (histogram.ghosts).range s
chosen_range (OfLadder s) = (ladder.ghosts).range s

-- the range of each kind
abbrev pub kind_range : SelectorKind → ℕ
kind_range Gate = WIDE_RANGE
kind_range Histogram = RANGE
kind_range Ladder = WIDE_RANGE
