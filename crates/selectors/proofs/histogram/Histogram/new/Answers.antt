use Rattle.std.proofs.Common.{get_or, replicate, refl, arith}
use Rattle.selectors.proofs.Tallies.{tally_none, getD_zeros}
use Rattle.selectors.proofs.histogram.Histogram.new.Goals as goal

pub invariant_of-result : goal.invariant_of-result
invariant_of-result c = record {
  size = refl;
  tally = tally_none (λ k. get_or (replicate 512 0) k 0) 512 _ _ (getD_zeros 512) (omega arith) (omega arith);
}

pub returns : goal.returns
returns c = record { weights = getD_zeros 512 }
