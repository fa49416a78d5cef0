-- What a kind of tones is in scripts. Assumes nothing.
use Rattle.std.specs.Prelude.{ℕ, List, ℤ, Option, Result}
use Rattle.calls.specs.Calls.{Notes, State}
use Rattle.scripts.specs.Words.{Rest}
use Rattle.scripts.specs.declared.answers.Fault.{Fault}

pub record Scripted (R : Type 0) : Type 1 where
  -- words write a row
  pub written : Rest → R → Type 0
  -- how many numbers a row has
  pub count : ℕ
  -- the text that shows a row: its numbers, each after a space
  pub shown : R → List ℕ
  -- what a residue of a card answers, and what it leaves in the reliefs
  pub residues : Option Notes → List R → List ℤ → Result (Unit {0}) Fault → List ℤ → Type 0
  -- what a write of a card into lent bytes answers, and what it leaves in them
  pub writes : State R → List ℕ → Result ℕ Fault → List ℕ → Type 0
  -- what a load answers, of a file or where none was read, and the card with its memory after it
  pub loads : State R → ℕ → ℕ → Option (List ℕ) → Result (Unit {0}) Fault → State R → Type 0
