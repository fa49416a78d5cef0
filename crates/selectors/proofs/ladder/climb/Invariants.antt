use Rattle.std.proofs.Common.{◌≡◌, ◌+◌, ◌<◌, get_or}
use Rattle.selectors.specs.Bag.{below}
use Rattle.selectors.specs.Entries.{blank}
use Rattle.selectors.proofs.ladder.climb.Given as goal

abbrev pub invariant-loop-entry : goal.invariant-loop-entry
invariant-loop-entry l = (below (λ j. (get_or l.entries j blank).weight) l.entry-index + l.left ≡ l.rank) × (0 < l.left)
