-- What a player is seen as. Assumes nothing.
use Rattle.std.specs.Prelude.{ℕ, List}
use Rattle.calls.specs.Calls.{State}
use Rattle.cards.specs.Meanings.{state_of}
use Rattle.cards.specs.declared.card.Card.{Card}

-- its card, its memory, the number of the card's pixels, and its own selector
pub record Seen (T R S : Type 0) : Type 0 where
  pub card : Card T S
  pub memory : List R
  pub area : ℕ
  pub own : S

-- the state of its card with the memory
abbrev pub stands : {T R S : Type 0} → (S → ℕ → ℕ) → Seen T R S → State R
stands weight p = state_of weight p.card p.memory
