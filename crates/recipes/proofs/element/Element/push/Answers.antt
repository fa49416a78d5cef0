use Rattle.std.proofs.Common.{arith}
use Rattle.recipes.proofs.Arrays.{push_fits, push_lawful}
use Rattle.recipes.proofs.element.Element.push.Goals as goal

pub bounds-self-self : goal.bounds-self-self
bounds-self-self c = push_fits c.args.self.now c.args.place c.requires.limits c.requires.free

pub invariant_of-self-clause-sound : goal.invariant_of-self-clause-sound
invariant_of-self-clause-sound c = push_lawful c.args.self.now c.args.place c.requires.limits c.requires.free

pub invariant_of-self-clause-within : goal.invariant_of-self-clause-within
invariant_of-self-clause-within c = let room = push_fits c.args.self.now c.args.place c.requires.limits c.requires.free in omega arith
