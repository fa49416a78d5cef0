use Rattle.std.proofs.Common.{◌≡◌, ◌++◌, map, take}
use Rattle.recipes.specs.Recipes.{staged, stage_with}
use Rattle.recipes.proofs.recipe.Recipe.append.Given as goal

abbrev pub invariant-loop-operation : goal.invariant-loop-operation
invariant-loop-operation l = staged l.self ≡ staged l.initial.self ++ map (stage_with l.step.element) (take l.operation-index l.operation-items)
