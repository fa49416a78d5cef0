use Rattle.std.proofs.Common.{refl, arith}
use Rattle.selectors.proofs.Tallies.{tally_none}
use Rattle.selectors.proofs.Weighing.{weigh_zero}
use Rattle.selectors.proofs.entries.Entries.clear.Goals as goal

pub invariant_of-self : goal.invariant_of-self
invariant_of-self c = record {
  size = c.args.self.now.size;
  weighty = λ i l. absurd (omega arith);
  tally = tally_none _ 33554432 _ _ (weigh_zero _) (omega arith) (omega arith);
}

pub returns : goal.returns
returns c = record { none = refl; weights = weigh_zero _ }
