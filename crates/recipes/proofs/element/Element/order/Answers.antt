use Rattle.std.proofs.Common.{arith}
use Rattle.recipes.proofs.Keeps.{sound, lawful_from}
use Rattle.recipes.specs.Placed.{placed}
use Rattle.recipes.proofs.element.Element.order.Goals as goal

pub invariant_of-self-clause-sound : goal.invariant_of-self-clause-sound
invariant_of-self-clause-sound c =
    let s = sound (placed c.args.self.now) c.args.self.now.order c.args.self.now.sound in
    lawful_from (placed c.args.self.now) c.args.k (record { centred = s.centred; inside = s.inside; single = s.single; ordered = grind arith })
