-- What a load answers and leaves. Assumes nothing.
use Rattle.std.specs.Prelude.{◌≡◌, ℕ, List, ◌++◌, codes, Some, None, Ok, Err, Option, Result}
use Rattle.pgm.specs.Numbers.{number_of, letter_of, byte_of, fault_text}
use Rattle.pgm.specs.Reading.{Reading, Reads}
use Rattle.pgm.specs.Reading.Reading.{Shows, Faulty}
use Rattle.tones.specs.Greys.{greys}
use Rattle.calls.specs.Refusals.{refusal_number, refusal_text}
use Rattle.calls.specs.Calls.{State, Answer, refusal}
use Rattle.calls.specs.Calls.Answer.{Done, Refused}
use Rattle.calls.specs.Calls.Call.{Patch}
use Rattle.calls.specs.Outcomes.{Outcome}
use Rattle.cards.specs.declared.faults.LoadFault.{LoadFault}
use Rattle.cards.specs.declared.faults.LoadFault.TheVariants.{File, Card}

-- the number of a fault met in a load: 23 for the file
abbrev pub load_number : LoadFault → ℕ
load_number (File f) = number_of f
load_number (Card e) = refusal_number e

-- its spot: the byte at fault, 0 for the card
abbrev pub load_spot : LoadFault → ℕ
load_spot (File f) = byte_of f
load_spot (Card e) = 0

-- its letter, if it is the file's
abbrev pub load_letter : LoadFault → Option ℕ
load_letter (File f) = Some (letter_of f)
load_letter (Card e) = None

-- what was refused, the file or the card, and why
abbrev pub load_text : LoadFault → List ℕ
load_text (File f) = codes "file: " ++ fault_text f
load_text (Card e) = codes "card: " ++ refusal_text e

-- the result of a load as an answer of the patch under it
abbrev pub load_answer : Result (Unit {0}) LoadFault → Answer ℕ
load_answer (Ok _) = Done
load_answer (Err (File f)) = Refused 23
load_answer (Err (Card e)) = refusal e

-- the load of a picture is the patch of its samples; a faulty file is refused with its fault and
-- changes nothing
abbrev pub LoadsBy : Reading → State ℕ → ℕ → ℕ → Result (Unit {0}) LoadFault → State ℕ → Type 0
LoadsBy (Shows width height maxval samples) from x y r to =
    Outcome greys from (Patch x y width height samples) (load_answer r) to
LoadsBy (Faulty f) from x y r to = (r ≡ Err (File f)) × (to ≡ from)

-- the file is read as its one reading says
pub record Loads (file : List ℕ) (from : State ℕ) (x y : ℕ)
    (r : Result (Unit {0}) LoadFault) (to : State ℕ) : Type 0 where
  pub reading : Reading
  pub reads : Reads file reading
  pub outcome : LoadsBy reading from x y r to
