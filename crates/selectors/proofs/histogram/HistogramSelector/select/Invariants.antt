use Rattle.std.proofs.Common.{◌≡◌, ◌+◌, ◌-◌, ◌<◌, get_or}
use Rattle.selectors.specs.Bag.{below}
use Rattle.selectors.proofs.histogram.HistogramSelector.select.Given as goal

abbrev pub invariant-loop-left : goal.invariant-loop-left
invariant-loop-left l = (l.code < 512) × (below (λ c. get_or l.self.weights c 0) l.code + l.left ≡ l.rank) × (0 < l.left)

abbrev pub decreases-loop-left : goal.decreases-loop-left
decreases-loop-left l = 512 - l.code
