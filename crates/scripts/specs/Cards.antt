-- What only greys can do with a card, and what every other kind answers there. Assumes nothing.
use Rattle.std.specs.Prelude.{◌≡◌, ℕ, List, length, ℤ, Ok, Err, Some, None, Option, Result}
use Rattle.calls.specs.Calls.{Notes, State, done, number}
use Rattle.calls.specs.Residue.{residue_after, residue_answer}
use Rattle.calls.specs.declared.refusals.Refusal.{Refusal}
use Rattle.cards.specs.Loading.{Loads}
use Rattle.cards.specs.Writing.{Writes}
use Rattle.cards.specs.declared.faults.LoadFault.{LoadFault}
use Rattle.scripts.specs.declared.answers.Fault.{Fault}
use Rattle.scripts.specs.declared.answers.Fault.TheVariants as fault

-- a result with its refusal as a fault of its kind
abbrev pub faulted : {A E : Type 0} → (E → Fault) → Result A E → Result A Fault
faulted kind (Ok a) = Ok a
faulted kind (Err e) = Err (kind e)

-- no kind but greys has residues: the line is not read
abbrev pub NoResidue : {R : Type 0} → Option Notes → List R → List ℤ
    → Result (Unit {0}) Fault → List ℤ → Type 0
NoResidue n m before r after = (r ≡ Err fault.Unknown) × (after ≡ before)

-- the residue of a grey card
abbrev pub GreyResidue : Option Notes → List ℕ → List ℤ → Result (Unit {0}) Fault → List ℤ → Type 0
GreyResidue n m before r after = (x : Result (Unit {0}) Refusal) × (r ≡ faulted fault.Card x)
    × (done {R = ℕ} x ≡ residue_answer n m (length before)) × (after ≡ residue_after n m before)

-- no kind but greys is written as a file: the line is not read
abbrev pub NoWrite : {R : Type 0} → State R → List ℕ → Result ℕ Fault → List ℕ → Type 0
NoWrite at before r after = (r ≡ Err fault.Unknown) × (after ≡ before)

-- the write of a grey card
abbrev pub GreyWrite : State ℕ → List ℕ → Result ℕ Fault → List ℕ → Type 0
GreyWrite at before r after =
    (x : Result ℕ Refusal) × (r ≡ faulted fault.Card x) × Writes at before (number x) after

-- no kind but greys is read from a file: the line is not read, whether the file was or not
abbrev pub NoLoad : {R : Type 0} → State R
    → ℕ → ℕ → Option (List ℕ) → Result (Unit {0}) Fault → State R → Type 0
NoLoad from x y file r to = (r ≡ Err fault.Unknown) × (to ≡ from)

-- a file is loaded onto a grey card, if it was read
abbrev pub GreyLoad :
    State ℕ → ℕ → ℕ → Option (List ℕ) → Result (Unit {0}) Fault → State ℕ → Type 0
GreyLoad from x y None r to = (r ≡ Err fault.Unreadable) × (to ≡ from)
GreyLoad from x y (Some file) r to =
    (l : Result (Unit {0}) LoadFault) × (r ≡ faulted fault.Load l) × Loads file from x y l to
