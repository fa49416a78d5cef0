use Rattle.std.proofs.Common.{replicate, refl, arith}
use Rattle.selectors.specs.Entries.{blank, weigh}
use Rattle.selectors.proofs.Tallies.{tally_none}
use Rattle.selectors.proofs.Weighing.{weigh_zero}
use Rattle.selectors.proofs.entries.Entries.new.Goals as goal

pub invariant_of-result : goal.invariant_of-result
invariant_of-result c = record {
  size = refl;
  weighty = λ i l. absurd (omega arith);
  tally = tally_none (weigh (replicate 64 blank) 0) 33554432 _ _ (weigh_zero (replicate 64 blank)) (omega arith) (omega arith);
}

pub returns : goal.returns
returns c = record { none = refl; weights = weigh_zero (replicate 64 blank) }
