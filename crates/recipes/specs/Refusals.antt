-- The number and the text of each refusal, and the number of the one that a call answers. Assumes
-- nothing.
use Rattle.std.specs.Prelude.{ℕ, List, ◌++◌, Ok, Err, Some, None, Option, Result, codes, decimal}
use Rattle.recipes.specs.declared.refusals.DraftRefusal.{DraftRefusal}
use Rattle.recipes.specs.declared.refusals.DraftRefusal.TheVariants.{UnknownLetter, Full, TooFew}
use Rattle.recipes.specs.declared.refusals.ElementRefusal.{ElementRefusal}
use Rattle.recipes.specs.declared.refusals.ElementRefusal.TheVariants.{Outside, Taken, Missing, UnknownShape, UnlawfulOrder}

-- of an element's calls
abbrev pub element_number : ElementRefusal → ℕ
element_number Outside = 6
element_number Taken = 7
element_number Missing = 8
element_number UnknownShape = 9
element_number UnlawfulOrder = 10

-- of a draft's calls
abbrev pub draft_number : DraftRefusal → ℕ
draft_number UnknownLetter = 11
draft_number Full = 12
draft_number TooFew = 19

-- a refusal as it is printed: its number, a colon and its cause
abbrev pub refusal_text : ℕ → List ℕ → List ℕ
refusal_text number cause = decimal number ++ codes ": " ++ cause

-- why an element is not changed
abbrev pub element_cause : ElementRefusal → List ℕ
element_cause Outside = codes "an offset or the amount is outside its limits"
element_cause Taken = codes "a place stands there already"
element_cause Missing = codes "no place stands there"
element_cause UnknownShape = codes "no standard shape has that number"
element_cause UnlawfulOrder = codes "the order index is not lawful for the places"

abbrev pub element_text : ElementRefusal → List ℕ
element_text e = refusal_text (element_number e) (element_cause e)

-- why a step is not added, or a draft makes no recipe
abbrev pub draft_cause : DraftRefusal → List ℕ
draft_cause UnknownLetter = codes "the letter is none of E, D, O and C"
draft_cause Full = codes "the draft has 4 steps, or as many as declared"
draft_cause TooFew = codes "the draft has fewer steps than declared"

abbrev pub draft_text : DraftRefusal → List ℕ
draft_text e = refusal_text (draft_number e) (draft_cause e)

-- the number with which a call is refused, if it is
abbrev pub refused_with : {A E : Type 0} → (E → ℕ) → Result A E → Option ℕ
refused_with number (Ok _) = None
refused_with number (Err e) = Some (number e)
