-- What a call on a card is answered: the answer that the rules of the call give, by the line that
-- stands for it. Assumes nothing.
use Rattle.std.specs.Prelude.{◌≡◌, ◌≢◌, ◌⊎◌, ℕ, ◌-◌, ◌*◌, if◌then◌else◌, ◌||◌, List, ◌++◌, length, take, replicate, ℤ, pos, Ok, Some, None, Err, MatchResult, Option, Result, String, ◌==◌, string_bytes}
use Rattle.std.specs.Borrow.{Bor}
use Rattle.std.specs.declared.alloc.AllocError.{AllocError}
use Rattle.std.specs.declared.alloc.Global.{Global}
use Rattle.tones.specs.Kind.{Kind}
use Rattle.recipes.specs.declared.draft.Draft.{Draft}
use Rattle.calls.specs.Calls.{State, Call, done, number, piece}
use Rattle.calls.specs.Calls.Call.{Install, Patch, Work, Row, Left, Due}
use Rattle.calls.specs.Calls.Answer.{Number, Next}
use Rattle.calls.specs.Opening.{fresh, open_refusal}
use Rattle.calls.specs.Outcomes.{Outcome, done_unless, kept_if}
use Rattle.calls.specs.declared.refusals.Refusal.{Refusal}
use Rattle.cards.specs.declared.card.TheConstants.{LONGEST_FILE}
use Rattle.selectors.specs.Played.{Answered}
use Rattle.selectors.specs.declared.calls.SelectorCall.{SelectorCall}
use Rattle.selectors.specs.declared.calls.CallRefusal.{CallRefusal}
use Rattle.selectors.specs.declared.calls.Reply.{Reply}
use Rattle.scripts.specs.Answers.{answer_of_call, answer_of_selector, answer_of_work}
use Rattle.scripts.specs.Words.{Rest}
use Rattle.scripts.specs.declared.answers.Answer.{Answer}
use Rattle.scripts.specs.declared.answers.Answer.TheVariants as answer
use Rattle.scripts.specs.declared.answers.Fault.{Fault}
use Rattle.scripts.specs.declared.answers.Fault.TheVariants.{Unknown, Unreadable, Card, Tone, Memory}
use Rattle.scripts.specs.declared.commands.CardCall.{CardCall as Asked}
use Rattle.scripts.specs.declared.commands.CardCall.TheVariants as asked
use Rattle.scripts.specs.declared.commands.FileCall.{FileCall}
use Rattle.scripts.specs.declared.commands.FileCall.TheVariants.{Write, Save, Load}
use Rattle.scripts.specs.declared.commands.Opening.{Opening}
use Rattle.scripts.specs.declared.commands.Patch.{Patch as Rectangle}
use Rattle.rehearse.specs.Rooms.{room_of}
use Rattle.scripts.specs.Rows.{NotRead, RowsWritten, relief_shown, rows_text, spaced}
use Rattle.scripts.specs.Scripted.{Scripted}
use Rattle.tones.specs.declared.refusals.ToneRefusal.{ToneRefusal}

-- a call that is accepted or refused
abbrev pub Plays : {T R : Type 0} → Kind T R → State R → Call R
    → Result Answer Fault → State R → Type 0
Plays K s call r t =
    (x : Result (Unit {0}) Refusal) × (r ≡ answer_of_call x) × Outcome K s call (done x) t

-- the present draft is handed over, if there is one
abbrev pub HandsOver : {T R : Type 0} → Kind T R → State R → Option Draft
    → Result Answer Fault → State R → Type 0
HandsOver K s (Some d) r t = Plays K s (Install d) r t
HandsOver K s None r t = (r ≡ Err Unknown) × (t ≡ s)

-- work: the rows that were redone
abbrev pub Works : {T R : Type 0} → Kind T R → State R → ℕ → Result Answer Fault → State R → Type 0
Works K s b r t =
    (x : Result ℕ Refusal) × (r ≡ answer_of_work x) × Outcome K s (Work b) (number x) t

-- the rows that are left
abbrev pub AnswersLeft : {T R : Type 0} → Kind T R → State R → Answer → Type 0
AnswersLeft K s r = (n : ℕ) × (r ≡ answer.Number n) × Outcome K s Left (Number n) s

-- the row that is next
abbrev pub AnswersDue : {T R : Type 0} → Kind T R → State R → Answer → Type 0
AnswersDue K s r = (d : Option (ℕ × ℕ)) × (r ≡ answer.Due d) × Outcome K s Due (Next d) s

-- a call on a selector with the bag w and the range R
abbrev pub Ranks : (ℕ → ℕ) → ℕ → SelectorCall → Result Answer Fault → Type 0
Ranks w R call r = (x : Result Reply CallRefusal) × Answered w R call x × (r ≡ answer_of_selector x)

-- a call that is not made: its words write nothing so, or there was no memory for it
abbrev pub NotMade : {A : Type 0} → (A → Type 0) → Result Answer Fault → Type 0
NotMade written r = (f : Fault) × (r ≡ Err f) × NotRead written f

-- rows are answered by their text
abbrev pub RowsAnswered : {R : Type 0} → (R → List ℕ) → List R
    → Result Answer Fault → Type 0
RowsAnswered shown rows r = MatchResult r
    (λ a. (t : String Global) × (a ≡ answer.Rows t) × (string_bytes t ≡ rows_text shown rows))
    (λ f. (m : AllocError) × (f ≡ Memory m))

-- a patch of the rows that the words write
abbrev pub Patches : {T R : Type 0} → Kind T R → Scripted R → State R
    → Rectangle → Rest → Result Answer Fault → State R → Type 0
Patches {R = R} K W s p ws r t = (NotMade (RowsWritten W.written ws) r × (t ≡ s))
    ⊎ ((rows : List R) × RowsWritten W.written ws rows
    × Plays K s (Patch p.x p.y p.width p.height rows) r t)

-- a piece of the finished card
abbrev pub PieceAnswered : {R : Type 0} → (R → List ℕ) → Result (Bor (List R)) Refusal
    → Result Answer Fault → Type 0
PieceAnswered shown (Ok p) r = RowsAnswered shown p.now r
PieceAnswered shown (Err e) r = r ≡ Err (Card e)

abbrev pub AnswersRow : {T R : Type 0} → Kind T R → Scripted R → State R
    → ℕ → ℕ → ℕ → Result Answer Fault → Type 0
AnswersRow {R = R} K W s x y n r = (p : Result (Bor (List R)) Refusal)
    × Outcome K s (Row x y n) (piece p) s × PieceAnswered W.shown p r

-- the memory that a card is opened with: plane 0 has the rows, or zeros where there are none, and
-- every other plane zeros; rows of another count are all of the memory
abbrev pub memory_for : {R : Type 0} → Option (ℕ × ℕ) → R → List R → List R
memory_for None zero rows = rows
memory_for (Some room) zero rows = if length rows == 0 || length rows == room.1
    then take room.0 rows ++ replicate (room.0 - length rows) zero else rows

-- why a card is not opened so on this memory, if it is not
abbrev pub refused_opening : {T R : Type 0} → Kind T R → ℕ → List R → Opening → Option ℕ
refused_opening K range memory o =
    open_refusal K.count range (length memory) o.width o.height o.stages

-- a card is opened on this memory, which it then has
pub record Opened {T R : Type 0} (K : Kind T R) (range : ℕ) (s : State R) (o : Opening)
    (memory : List R) (x : Result (Unit {0}) Refusal) (t : State R) : Type 0 where
  pub answer : done {R = R} x ≡ done_unless (refused_opening K range memory o)
  pub notes : t.notes ≡ kept_if (refused_opening K range memory o) s.notes
      (Some (fresh o.width o.height o.stages))
  pub held : MatchResult x (λ _. t.memory ≡ memory) (λ _. t.memory ≡ s.memory)
  pub weights : t.weights ≡ s.weights

-- a card is opened with the rows that the words write
abbrev pub Opens : {T R : Type 0} → Kind T R → Scripted R → (R → Type 0) → ℕ → State R
    → Opening → Rest → Result Answer Fault → State R → Type 0
Opens {R = R} K W Zero range s o ws r t = (NotMade (RowsWritten W.written ws) r × (t ≡ s))
    ⊎ ((rows : List R) × (zero : R) × (x : Result (Unit {0}) Refusal)
    × RowsWritten W.written ws rows × Zero zero × (r ≡ answer_of_call x)
    × Opened K range s o (memory_for (room_of o.width o.height o.stages) zero rows) x t)

-- the number of the card's pixels after it
abbrev pub area_after : Result Answer Fault → Opening → ℕ → ℕ
area_after (Ok a) o before = o.width * o.height
area_after (Err f) o before = before

-- reliefs are answered unless the residue is refused
abbrev pub ReliefsAnswered : Result (Unit {0}) Fault → List ℤ
    → Result Answer Fault → Type 0
ReliefsAnswered (Ok _) reliefs r = RowsAnswered relief_shown reliefs r
ReliefsAnswered (Err f) reliefs r = r ≡ Err f

-- a residue, into so many reliefs
abbrev pub AnswersResidue : {R : Type 0} → Scripted R → State R → ℕ
    → Result Answer Fault → Type 0
AnswersResidue W s n r = ((m : AllocError) × (r ≡ Err (Memory m)))
    ⊎ ((x : Result (Unit {0}) Fault) × (reliefs : List ℤ)
    × W.residues s.notes s.memory (replicate n (pos 0)) x reliefs × ReliefsAnswered x reliefs r)

-- a file of a card is made in so many bytes: as many of them as a write answers
abbrev pub FileMade : {R : Type 0} → Scripted R → State R → ℕ → List ℕ → Type 0
FileMade W s room file = (n : ℕ) × (bytes : List ℕ)
    × W.writes s (replicate room 0) (Ok n) bytes × (file ≡ take n bytes)

-- none is made: the write is refused, or there was no memory for it
abbrev pub NoFile : {R : Type 0} → Scripted R → State R → ℕ → Fault → Type 0
NoFile W s room f = ((m : AllocError) × (f ≡ Memory m))
    ⊎ ((bytes : List ℕ) × W.writes s (replicate room 0) (Err f) bytes)

-- a call that wants the file of a card, made in so many bytes: it is answered so, or by why there
-- is none
abbrev pub OfFile : {R : Type 0} → Scripted R → State R → ℕ
    → (List ℕ → Result Answer Fault → Type 0) → Result Answer Fault → Type 0
OfFile W s room answered r = ((f : Fault) × (r ≡ Err f) × NoFile W s room f)
    ⊎ ((file : List ℕ) × FileMade W s room file × answered file r)

-- a file is answered by its length and its bytes
abbrev pub FileAnswered : List ℕ → Result Answer Fault → Type 0
FileAnswered file r = MatchResult r
    (λ a. (t : String Global) × (a ≡ answer.File (length file) t)
    × (string_bytes t ≡ rows_text spaced file))
    (λ f. (m : AllocError) × (f ≡ Memory m))

-- a write into so many bytes
abbrev pub AnswersWrite : {R : Type 0} → Scripted R → State R → ℕ → Result Answer Fault → Type 0
AnswersWrite W s room r = OfFile W s room FileAnswered r

-- a file that is saved is answered by its length, unless its path cannot be written
abbrev pub SavedAnswered : List ℕ → Result Answer Fault → Type 0
SavedAnswered file r = (r ≡ Ok (answer.Counted (length file))) ⊎ (r ≡ Err Unreadable)

-- a save, made in as many bytes as the longest file has
abbrev pub Saves : {R : Type 0} → Scripted R → State R → Result Answer Fault → Type 0
Saves W s r = OfFile W s LONGEST_FILE SavedAnswered r

-- the answer of a load
abbrev pub answer_of_load : Result (Unit {0}) Fault → Result Answer Fault
answer_of_load (Ok _) = Ok answer.Done
answer_of_load (Err f) = Err f

-- a load of a file, or of none where it could not be read
abbrev pub LoadsFile : {R : Type 0} → Scripted R → State R
    → ℕ → ℕ → Option (List ℕ) → Result Answer Fault → State R → Type 0
LoadsFile W s x y file r t =
    (l : Result (Unit {0}) Fault) × (r ≡ answer_of_load l) × W.loads s x y file l t

-- the tone of the parts that the words write: its code, or the refusal where no tone has them
abbrev pub ToneAnswered : {T R : Type 0} → Kind T R → R → Result T ToneRefusal
    → Result Answer Fault → Type 0
ToneAnswered K row (Ok t) r = (K.row t ≡ row) × (r ≡ Ok (answer.Counted (K.code t)))
ToneAnswered {T = T} K row (Err e) r = ((t : T) → K.row t ≢ row) × (r ≡ Err (Tone e))

abbrev pub AnswersTone : {T R : Type 0} → Kind T R → Scripted R → Rest
    → Result Answer Fault → Type 0
AnswersTone {T} {R} K W ws r = ((r ≡ Err Unknown) × ((row : R) → W.written ws row → ⊥))
    ⊎ ((row : R) × (x : Result T ToneRefusal) × W.written ws row × ToneAnswered K row x r)

-- a call that makes a file or takes one, with what is read of it, is answered, and leaves a card
-- with its memory
abbrev pub Filed : {R : Type 0} → Scripted R → State R
    → FileCall → Result Answer Fault → State R → Type 0
Filed W s (Write room) r t = AnswersWrite W s room r × (t ≡ s)
Filed W s (Save path) r t = Saves W s r × (t ≡ s)
Filed W s (Load x y path) r t = (file : Option (List ℕ)) × LoadsFile W s x y file r t

-- the present draft after a call: an install hands it over
abbrev pub draft_after : Asked → Option Draft → Option Draft
draft_after asked.Install draft = None
draft_after call draft = draft

-- what a player's calls go by: the kind of its tones, what it is in scripts, the row by default,
-- and the range of the card's selector
module _ {T R : Type 0} (K : Kind T R) (W : Scripted R) (Zero : R → Type 0) (range : ℕ) where
  -- the call that a command asks for is made on the card, with the present draft; it is answered,
  -- and leaves a card with its memory and the number of its pixels
  abbrev pub Made : State R → ℕ → Option Draft → Asked → Result Answer Fault → State R → ℕ → Type 0
  Made s n draft (asked.Open o rows) r t m =
      Opens K W Zero range s o rows.now r t × (m ≡ area_after r o n)
  Made s n draft asked.Install r t m = HandsOver K s draft r t × (m ≡ n)
  Made s n draft (asked.Patch p rows) r t m = Patches K W s p rows.now r t × (m ≡ n)
  Made s n draft (asked.Work b) r t m = Works K s b r t × (m ≡ n)
  Made s n draft (asked.Row x y count) r t m = AnswersRow K W s x y count r × (t ≡ s) × (m ≡ n)
  Made s n draft asked.Left r t m =
      (a : Answer) × (r ≡ Ok a) × AnswersLeft K s a × (t ≡ s) × (m ≡ n)
  Made s n draft asked.Due r t m =
      (a : Answer) × (r ≡ Ok a) × AnswersDue K s a × (t ≡ s) × (m ≡ n)
  Made s n draft asked.Residue r t m = AnswersResidue W s n r × (t ≡ s) × (m ≡ n)
  Made s n draft (asked.Tone parts) r t m = AnswersTone K W parts.now r × (t ≡ s) × (m ≡ n)
