use Rattle.std.proofs.Common.{length, take, ap, arith}
use Rattle.std.proofs.lemmas.List.{length-take-le}
use Rattle.recipes.proofs.Listed.{stages_few}
use Rattle.recipes.proofs.recipe.Recipe.of.Goals as goal

pub append-requires : goal.append-requires
append-requires c =
    let i = c.loop-step.step-index in
    omega (arith, ap length c.loop-step.invariant, stages_few (take i c.args.steps.now), length-take-le i c.args.steps.now (omega arith))
