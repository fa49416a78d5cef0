use Rattle.std.proofs.Common.{refl}
use Rattle.recipes.specs.Lawful.{lawful, apart}
use Rattle.recipes.proofs.element.Element.new.Goals as goal

pub invariant_of-result-clause-sound : goal.invariant_of-result-clause-sound
unfolding lawful apart
invariant_of-result-clause-sound c = refl
