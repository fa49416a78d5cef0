use Rattle.std.proofs.Common.{◌≡◌, take}
use Rattle.recipes.specs.Recipes.{staged, stages_of}
use Rattle.recipes.proofs.recipe.Recipe.of.Given as goal

abbrev pub invariant-loop-step : goal.invariant-loop-step
invariant-loop-step l = staged l.recipe ≡ stages_of (take l.step-index l.steps)
