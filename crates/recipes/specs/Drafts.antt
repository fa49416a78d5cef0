-- What the steps of a draft are, and what adding one answers and leaves. Assumes nothing.
use Rattle.std.specs.Prelude.{ℕ, Bool, if◌then◌else◌, ◌||◌, List, [], ◌∷◌, ◌++◌, length, take, Some, None, Option, ◌==◌}
use Rattle.recipes.specs.declared.draft.Draft.{Draft}
use Rattle.recipes.specs.declared.draft.Letter.{Letter}
use Rattle.recipes.specs.declared.draft.Letter.TheVariants.{Erosion, Dilation, Opening, Closing}
use Rattle.recipes.specs.declared.draft.Step.{Step}
use Rattle.recipes.specs.declared.draft.TheConstants.{MOST_STEPS}
use Rattle.recipes.specs.declared.element.Element.{Element}

-- the steps of a draft
abbrev pub steps_of : Draft → List Step
steps_of d = take d.count d.steps

-- the number of steps that a draft declares
abbrev pub declared_by : Draft → ℕ
declared_by d = d.declared

-- the letters: E is 69, D is 68, O is 79, C is 67, and there are no others
abbrev pub letter_of : ℕ → Option Letter
letter_of c =
    if c == 69 then Some Erosion
    else if c == 68 then Some Dilation
    else if c == 79 then Some Opening
    else if c == 67 then Some Closing
    else None

-- there are 4 steps, or as many as declared
abbrev pub full : List Step → ℕ → Bool
full ss declared = length ss == MOST_STEPS || length ss == declared

-- a step is refused where its letter is unknown (11), then where the draft is full (12)
abbrev pub step_refusal : Option Letter → List Step → ℕ → Option ℕ
step_refusal None ss declared = Some 11
step_refusal (Some l) ss declared = if full ss declared then Some 12 else None

-- a step that is not refused comes last
abbrev pub step_after : Option Letter → Element → List Step → ℕ → List Step
step_after None e ss declared = ss
step_after (Some l) e ss declared =
    if full ss declared then ss else ss ++ record { letter = l; element = e } ∷ []
