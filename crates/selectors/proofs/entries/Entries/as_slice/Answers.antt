use Rattle.std.proofs.Common.{arith}
use Rattle.selectors.proofs.Climbing.{rising_front}
use Rattle.selectors.proofs.Weighing.{front_bag}
use Rattle.selectors.proofs.entries.Entries.as_slice.Goals as goal

pub returns-clause-same_bag : goal.returns-clause-same_bag
returns-clause-same_bag c = front_bag c.args.self.now.places c.args.self.now.count (omega arith)

pub returns-clause-rising : goal.returns-clause-rising
returns-clause-rising c = rising_front c.args.self.now.places c.args.self.now.count (omega arith)
