-- The stages of steps, and a recipe's array as a list.
use Rattle.std.proofs.Common.{◌≡◌, ◌*◌, ◌≤◌, List, [], ◌∷◌, length, arith}
use Rattle.std.proofs.lemmas.List.{length-take-le, length-append}
use Rattle.recipes.specs.declared.draft.Letter.{Letter}
use Rattle.recipes.specs.declared.draft.Letter.TheVariants.{Erosion, Dilation, Opening, Closing}
use Rattle.recipes.specs.declared.draft.Step.{Step}
use Rattle.recipes.specs.declared.element.Element.{Element}
use Rattle.recipes.specs.declared.recipe.Recipe.{Recipe}
use Rattle.recipes.specs.Recipes.{staged, stages_by, stages_of_step, stages_of}

pub length_staged : (r : Recipe) → length (staged r) ≡ r.count
length_staged r = length-take-le r.count r.stages (omega (arith, r.long, r.few))

pub staged_few : (r : Recipe) → length (staged r) ≤ 8
staged_few r = omega (arith, length_staged r, r.few)

-- a step has at most two stages
step_few : (l : Letter) (e : Element) → length (stages_by l e) ≤ 2
step_few Erosion e = omega arith
step_few Dilation e = omega arith
step_few Opening e = omega arith
step_few Closing e = omega arith

pub stages_few : (ss : List Step) → length (stages_of ss) ≤ 2 * length ss
stages_few [] = omega arith
stages_few (s ∷ ss) = omega (arith, length-append (stages_of_step s) (stages_of ss), step_few s.letter s.element, stages_few ss)
