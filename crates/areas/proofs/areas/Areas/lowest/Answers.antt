use Rattle.std.proofs.Common.{subst}
use Rattle.areas.specs.Areas.{FirstThere}
use Rattle.areas.specs.Listed.{listed}
use Rattle.areas.proofs.Walks.{lowest_first}
use Rattle.areas.proofs.areas.Areas.lowest.Goals as goal

pub returns : goal.returns
returns c = record { answer = lowest_first (listed c.args.self.now) c.first_there.result (subst (λ bs. FirstThere bs c.first_there.result) c.listed.ensures c.first_there.ensures) }
