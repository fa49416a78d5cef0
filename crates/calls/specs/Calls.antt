-- A card with the memory that is lent to it, the calls on it, and how their results read as answers. Assumes nothing.
use Rattle.std.specs.Prelude.{ℕ, suc, List, Some, Ok, Err, Option, Result}
use Rattle.std.specs.Borrow.{Bor}
use Rattle.planes.specs.declared.size.Size.{Size}
use Rattle.planes.specs.Sizes.{start}
use Rattle.recipes.specs.declared.draft.Draft.{Draft}
use Rattle.recipes.specs.declared.recipe.Stage.{Stage}
use Rattle.areas.specs.Areas.{Area}
use Rattle.calls.specs.declared.refusals.Refusal.{Refusal}
use Rattle.calls.specs.declared.refusals.Refusal.TheVariants.{Stale}
use Rattle.calls.specs.Refusals.{refusal_number}

-- what a card notes once it has a size: the size, the most stages that it has planes for, the recipe in force, and the
-- stale area of each of its stages
pub record Notes : Type 0 where
  pub size : Size
  pub most : ℕ
  pub recipe : List Stage
  pub areas : List Area

-- a card that has a size, with the weights of its selector and the rows of its memory
pub record Open (R : Type 0) : Type 0 where
  pub notes : Notes
  pub weights : ℕ → ℕ
  pub memory : List R

-- the same of any card: it has notes if it has a size
pub record State (R : Type 0) : Type 0 where
  pub notes : Option Notes
  pub weights : ℕ → ℕ
  pub memory : List R

abbrev pub open_state : {R : Type 0} → Open R → State R
open_state o = record { notes = Some o.notes; weights = o.weights; memory = o.memory }

-- the rows of a card's memory: one plane more than stages
abbrev pub room : Notes → ℕ
room n = start n.size (suc n.most)

-- the calls with their arguments; a patch has a corner, a width, a height and its tones, a row a column, a row and a
-- number of tones
pub data Call (R : Type 0) : Type 0 where
  Patch : ℕ → ℕ → ℕ → ℕ → List R → Call R
  Install : Draft → Call R
  Work : ℕ → Call R
  Row : ℕ → ℕ → ℕ → Call R
  Left : Call R
  Due : Call R

-- what a call answers: done, a number, a piece of the finished plane, a stage with a row or nothing; or a refusal by its
-- number, which is 22 and the first column met where a piece is stale
pub data Answer (R : Type 0) : Type 0 where
  Done : Answer R
  Number : ℕ → Answer R
  Piece : List R → Answer R
  Next : Option (ℕ × ℕ) → Answer R
  Refused : ℕ → Answer R
  Met : ℕ → Answer R

-- a refusal as an answer: by its number, and where a piece is stale with the first column met
abbrev pub refusal : {R : Type 0} → Refusal → Answer R
refusal (Stale c) = Met c
refusal e = Refused (refusal_number e)

-- the results of the calls as answers
abbrev pub done : {R : Type 0} → Result (Unit {0}) Refusal → Answer R
done (Ok _) = Done
done (Err e) = refusal e

abbrev pub number : {R : Type 0} → Result ℕ Refusal → Answer R
number (Ok n) = Number n
number (Err e) = refusal e

abbrev pub piece : {R : Type 0} → Result (Bor (List R)) Refusal → Answer R
piece (Ok p) = Piece p.now
piece (Err e) = refusal e
