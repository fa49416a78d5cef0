-- What the calls on an element and on a draft answer and leave. Assumes nothing.
use Rattle.std.specs.Prelude.{◌≡◌, ℕ, List, [], ◌∷◌, ◌++◌, map, Some, None, Ok, Err, Result, Option}
use Rattle.calls.specs.Outcomes.{kept_if}
use Rattle.recipes.specs.Drafts.{letter_of, step_refusal, step_after, steps_of, declared_by}
use Rattle.recipes.specs.Edits.{place_refusal, amount_refusal, order_refusal}
use Rattle.recipes.specs.Places.{origin, amended}
use Rattle.recipes.specs.Refusals.{element_number, draft_number}
use Rattle.recipes.specs.Shapes.{shape_of, standard_refusal, standard_after}
use Rattle.recipes.specs.declared.draft.Draft.{Draft}
use Rattle.recipes.specs.declared.draft.Step.{Step as Move}
use Rattle.recipes.specs.declared.element.Element.{Element as Shape}
use Rattle.recipes.specs.declared.places.Place.{Place as Spot}
use Rattle.scripts.specs.Answers.{DoneUnless}
use Rattle.scripts.specs.declared.answers.Answer.{Answer}
use Rattle.scripts.specs.declared.answers.Answer.TheVariants.{Done}
use Rattle.scripts.specs.declared.answers.Fault.{Fault}
use Rattle.scripts.specs.declared.answers.Fault.TheVariants as fault
use Rattle.scripts.specs.declared.commands.Drafting.{Drafting}
use Rattle.scripts.specs.declared.commands.Drafting.TheVariants.{Begin, Step}
use Rattle.scripts.specs.declared.commands.Edit.{Edit}
use Rattle.scripts.specs.declared.commands.Edit.TheVariants.{Element, Place, Amount, Order, Standard}

-- the number with which a call on an element of these places is refused, if it is
abbrev pub edit_refusal : List Spot → Edit → Option ℕ
edit_refusal ps Element = None
edit_refusal ps (Place dx dy p a) = place_refusal ps dx dy a
edit_refusal ps (Amount dx dy a) = amount_refusal ps dx dy a
edit_refusal ps (Order k) = order_refusal ps k
edit_refusal ps (Standard i) = standard_refusal (shape_of i)

-- its answer: done, or the element's refusal of that number
abbrev pub Edited : List Spot → Edit → Result Answer Fault → Type 0
Edited ps edit r = DoneUnless fault.Element element_number (edit_refusal ps edit) r

-- the places after it
abbrev pub edit_places : List Spot → Edit → List Spot
edit_places ps Element = origin ∷ []
edit_places ps (Place dx dy p a) =
    kept_if (place_refusal ps dx dy a) ps
    (ps ++ record { dx = dx; dy = dy; part = p; amount = a } ∷ [])
edit_places ps (Amount dx dy a) = kept_if (amount_refusal ps dx dy a) ps (map (amended dx dy a) ps)
edit_places ps (Order k) = ps
edit_places ps (Standard i) = standard_after (shape_of i) ps

-- the order index after it
abbrev pub edit_order : List Spot → ℕ → Edit → ℕ
edit_order ps k Element = 1
edit_order ps k (Place dx dy p a) = k
edit_order ps k (Amount dx dy a) = k
edit_order ps k (Order n) = kept_if (order_refusal ps n) k n
edit_order ps k (Standard i) = kept_if (standard_refusal (shape_of i)) k 1

-- the present draft: its steps and how many it declares
abbrev pub IsDraft : Option Draft → List Move → ℕ → Type 0
IsDraft (Some d) ss n = (steps_of d ≡ ss) × (declared_by d ≡ n)
IsDraft None ss n = ⊥

-- the answer of a step of a letter on a draft: done, or the draft's refusal by its number
abbrev pub StepAnswered : Draft → ℕ → Result Answer Fault → Type 0
StepAnswered d l r =
    DoneUnless fault.Draft draft_number (step_refusal (letter_of l) (steps_of d) (declared_by d)) r

-- a step on the present draft with an element
abbrev pub Stepped : Option Draft → Shape → ℕ → Option Draft → Result Answer Fault → Type 0
Stepped None e l after r = (after ≡ None) × (r ≡ Err fault.Unknown)
Stepped (Some d) e l after r =
    IsDraft after (step_after (letter_of l) e (steps_of d) (declared_by d)) (declared_by d)
    × StepAnswered d l r

-- each call on the present draft
abbrev pub Drafted : Option Draft → Shape → Drafting → Option Draft → Result Answer Fault → Type 0
Drafted before e (Begin n) after r = IsDraft after [] n × (r ≡ Ok Done)
Drafted before e (Step l) after r = Stepped before e l after r
