use Rattle.std.proofs.Common.{refl}
use Rattle.areas.specs.Areas.{areas_fit}
use Rattle.areas.proofs.areas.Areas.none.Goals as goal

pub invariant_of-result-clause-sound : goal.invariant_of-result-clause-sound
unfolding areas_fit
invariant_of-result-clause-sound c = refl
