use Rattle.std.proofs.Common.{◌≡◌, length, get_or}
use Rattle.selectors.specs.Bag.{below}
use Rattle.selectors.specs.Entries.{blank, under, weigh}
use Rattle.selectors.proofs.Narrowing.{Halved}
use Rattle.selectors.proofs.gate.narrow.Given as goal

abbrev pub invariant-loop-entry : goal.invariant-loop-entry
invariant-loop-entry l = l.lower ≡ below (λ i. under (get_or l.entries i blank) l.bit l.low) l.entry-index

abbrev pub invariant-loop-bit : goal.invariant-loop-bit
invariant-loop-bit l = Halved (weigh l.entries (length l.entries)) l.rank l.bit l.low l.left
