-- What a card means. Assumes nothing.
use Rattle.std.specs.Prelude.{◌≡◌, ℕ, ◌≤◌, true, List, [], is_some, Some, None, Option}
use Rattle.std.specs.Option.{option_map}
use Rattle.tones.specs.Kind.{Kind}
use Rattle.recipes.specs.declared.recipe.Stage.{Stage}
use Rattle.calls.specs.Calls.{Notes, State}
use Rattle.cards.specs.OpenCards.{notes_of}
use Rattle.cards.specs.declared.card.Card.{Card}

-- what a card notes, if it has a size
abbrev pub notes : {T S : Type 0} → Card T S → Option Notes
notes c = option_map notes_of c.opened

-- the stages of the recipe that some notes have, none without notes
abbrev pub recipe_of : Option Notes → List Stage
recipe_of None = []
recipe_of (Some n) = n.recipe

-- its selector
abbrev pub selector_of : {T S : Type 0} → Card T S → S
selector_of c = c.selector

-- a card with the memory that is lent to it
abbrev pub state_of : {T S R : Type 0} → (S → ℕ → ℕ) → Card T S → List R → State R
state_of weight c m = record { notes = notes c; weights = weight c.selector; memory = m }

-- a card is in order: its selector is, and once it has a size the selector has a code for each tone
pub record InOrder {T S R : Type 0} (K : Kind T R)
    (range : S → ℕ) (ordered : S → Type 0) (c : Card T S) : Type 0 where
  pub selector : ordered c.selector
  pub codes : is_some c.opened ≡ true → K.count ≤ range c.selector

-- a card that is in order stays so
abbrev pub StaysInOrder : {T S R : Type 0} → Kind T R → (S → ℕ) → (S → Type 0)
    → Card T S → Card T S → Type 0
StaysInOrder K range ordered before after =
    InOrder K range ordered before → InOrder K range ordered after
