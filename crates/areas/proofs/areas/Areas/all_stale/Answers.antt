use Rattle.std.proofs.Common.{map, Some, ap, ◌∙◌}
use Rattle.areas.proofs.Fitting.{areas_fit_all}
use Rattle.areas.proofs.Walks.{take_same}
use Rattle.areas.proofs.areas.Areas.all_stale.Goals as goal

pub invariant_of-result-clause-sound : goal.invariant_of-result-clause-sound
invariant_of-result-clause-sound c =
    let ss = c.args.stages.now in
    let l = take_same ss 8 (Some c.whole.result) c.requires.few ∙ ap (λ r. map (λ s. Some r) ss) c.whole.ensures in
    rw l (areas_fit_all c.args.frame.size ss c.args.frame.within)

pub returns-clause-areas : goal.returns-clause-areas
returns-clause-areas c =
    let ss = c.args.stages.now in
    take_same ss 8 (Some c.whole.result) c.requires.few ∙ ap (λ r. map (λ s. Some r) ss) c.whole.ensures
