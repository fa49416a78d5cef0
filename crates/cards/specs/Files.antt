-- What is promised of the files that cards write. Assumes nothing.
use Rattle.std.specs.Prelude.{◌≡◌, ℕ, ◌≤◌, List, [], length, take, Some, Ok}
use Rattle.planes.specs.declared.size.Size.{Size}
use Rattle.planes.specs.Sizes.{area}
use Rattle.stages.specs.Planes.{picture}
use Rattle.stages.specs.Stages.{made}
use Rattle.filters.specs.Morphology.{On}
use Rattle.tones.specs.Greys.{greys}
use Rattle.pgm.specs.Raw.{raw_file, over}
use Rattle.pgm.specs.Reading.{Reads}
use Rattle.pgm.specs.Reading.Reading.{Shows}
use Rattle.calls.specs.Calls.{Notes, State, Answer}
use Rattle.calls.specs.Calls.Answer.{Number}
use Rattle.calls.specs.History.{History, in_force}
use Rattle.calls.specs.Runs.{Run, Begun}
use Rattle.calls.specs.Promise.{raw_card}
use Rattle.cards.specs.Loading.{Loads}
use Rattle.cards.specs.Writing.{Writes, finished_greys}

-- the file of an accepted write is read as the size and the finished greys of the card
abbrev pub ReadBack : State ℕ → Answer ℕ → List ℕ → Type 0
ReadBack at a after =
    (k : Notes) (n : ℕ) → at.notes ≡ Some k → a ≡ Number n →
    Reads (take n after) (Shows k.size.width k.size.height 255 (finished_greys k at.memory))

-- a card of a size that was opened, and then any calls made on it: the state that they led to, and
-- their history
pub record Played (size : Size) (h : History ℕ) (at : State ℕ) : Type 0 where
  pub most : ℕ
  pub start : State ℕ
  pub begun : Begun size most start
  pub run : Run greys start h at

-- a file that an accepted write on a card of a size has made
pub record MadeFile (size : Size) (file : List ℕ) : Type 0 where
  pub notes : Notes
  pub card : State ℕ
  pub opened : card.notes ≡ Some notes
  pub sized : notes.size ≡ size
  pub before : List ℕ
  pub after : List ℕ
  pub written : Writes card before (Number (length file)) after
  pub bytes : file ≡ take (length file) after

-- a file that a write has made, loaded at the corner of a card of its size whose recipe is empty,
-- whatever was on it: a write with room for it answers the same length, and writes the same bytes
abbrev pub OnceMore : Type 0
OnceMore =
    (size : Size) (file : List ℕ) → MadeFile size file →
    (h : History ℕ) (at : State ℕ) → Played size h at → in_force h ≡ [] →
    (to : State ℕ) → Loads file at 0 0 (Ok tt) to →
    (before after : List ℕ) (a : Answer ℕ) → length file ≤ length before →
    Writes to before a after → (a ≡ Number (length file)) × (after ≡ over file before)

-- a file shows at every pixel what the recipe in force makes of the raw card
pub record ShowsCard (size : Size) (start : State ℕ) (h : History ℕ) (file : List ℕ) : Type 0 where
  pub tones : List ℕ
  pub whole : file ≡ raw_file size.width size.height tones
  pub count : length tones ≡ area size
  pub right : (x y : ℕ) → On size x y →
      picture greys size 0 tones x y ≡ made greys size (in_force h) (raw_card greys size start h) x y

-- after any calls, the file of an accepted write shows the card so
abbrev pub RightFiles : Type 0
RightFiles =
    (size : Size) (h : History ℕ) (at : State ℕ) (p : Played size h at) →
    (before after : List ℕ) (n : ℕ) → Writes at before (Number n) after →
    ShowsCard size p.start h (take n after)
