-- What the stages of a recipe are. Assumes nothing.
use Rattle.std.specs.Prelude.{◌≡◌, ℕ, ◌<◌, ◌≤◌, Bool, List, [], ◌∷◌, map, length, take, Ok, Err, Result, nat_le, unsigned_abs}
use Rattle.std.specs.List.{flat_map}
use Rattle.recipes.specs.declared.draft.Draft.{Draft}
use Rattle.recipes.specs.declared.draft.Letter.{Letter}
use Rattle.recipes.specs.declared.draft.Letter.TheVariants as letter
use Rattle.recipes.specs.declared.draft.Step.{Step}
use Rattle.recipes.specs.declared.element.Element.{Element}
use Rattle.recipes.specs.declared.places.Place.{Place}
use Rattle.recipes.specs.declared.recipe.Operation.{Operation}
use Rattle.recipes.specs.declared.recipe.Operation.TheVariants.{Erosion, Dilation}
use Rattle.recipes.specs.declared.recipe.Recipe.{Recipe}
use Rattle.recipes.specs.declared.recipe.Stage.{Stage}
use Rattle.recipes.specs.declared.refusals.DraftRefusal.{DraftRefusal}
use Rattle.recipes.specs.Drafts.{steps_of, declared_by}
use Rattle.std.specs.List.{list_all}
use Rattle.recipes.specs.Placed.{placed}
use Rattle.recipes.specs.Refusals.{draft_number}

-- the stages of a recipe
abbrev pub staged : Recipe → List Stage
staged r = take r.count r.stages

-- an operation with an element
abbrev pub stage_with : Element → Operation → Stage
stage_with e o = record { operation = o; element = e }

abbrev pub eroding : Element → Stage
eroding e = stage_with e Erosion

abbrev pub dilating : Element → Stage
dilating e = stage_with e Dilation

-- E is one erosion, D one dilation, O an erosion and then a dilation, C a dilation and then an
-- erosion
abbrev pub operations_by : Letter → List Operation
operations_by letter.Erosion = Erosion ∷ []
operations_by letter.Dilation = Dilation ∷ []
operations_by letter.Opening = Erosion ∷ Dilation ∷ []
operations_by letter.Closing = Dilation ∷ Erosion ∷ []

-- a letter's operations, with the same element
abbrev pub stages_by : Letter → Element → List Stage
stages_by l e = map (stage_with e) (operations_by l)

abbrev pub stages_of_step : Step → List Stage
stages_of_step s = stages_by s.letter s.element

-- the stages of the steps, in order
abbrev pub stages_of : List Step → List Stage
stages_of ss = flat_map stages_of_step ss

-- a draft makes the recipe of its steps, or is refused where it has fewer than declared (19)
abbrev pub Finished : Draft → Result Recipe DraftRefusal → Type 0
Finished d (Ok r) = (declared_by d ≤ length (steps_of d)) × (staged r ≡ stages_of (steps_of d))
Finished d (Err e) = (length (steps_of d) < (declared_by d)) × (draft_number e ≡ 19)

-- every amount of some places is from −span to span
abbrev pub places_within : ℕ → List Place → Bool
places_within span ps = list_all (λ p. nat_le (unsigned_abs p.amount) span) ps

-- every amount of every stage is
abbrev pub amounts_within : ℕ → List Stage → Bool
amounts_within span ss = list_all (λ s. places_within span (placed s.element)) ss
