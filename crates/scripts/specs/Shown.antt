-- The line that shows each answer and each fault, and the last line. Assumes nothing.
use Rattle.std.specs.Prelude.{ℕ, List, [], ◌++◌, Some, None, Option, codes, encode_utf8, string_bytes}
use Rattle.std.specs.Fmt.{decimal}
use Rattle.calls.specs.Refusals.{refusal_number}
use Rattle.calls.specs.declared.refusals.Refusal.{Refusal}
use Rattle.calls.specs.declared.refusals.Refusal.TheVariants.{Stale}
use Rattle.cards.specs.Loading.{load_letter, load_number, load_spot}
use Rattle.recipes.specs.Refusals.{element_number, draft_number}
use Rattle.selectors.specs.Played.{call_number}
use Rattle.tones.specs.Refusals.{refusal_number as tone_number}
use Rattle.scripts.specs.declared.answers.Answer.{Answer}
use Rattle.scripts.specs.declared.answers.Answer.TheVariants as answer
use Rattle.scripts.specs.declared.answers.Fault.{Fault}
use Rattle.scripts.specs.declared.answers.Fault.TheVariants as fault
use Rattle.scripts.specs.declared.tally.Summary.{Summary}

-- the stage and the row that are next
abbrev pub due_line : Option (ℕ × ℕ) → List ℕ
due_line (Some d) = decimal d.0 ++ codes " " ++ decimal d.1
due_line None = codes "nothing"

-- an answer
abbrev pub answer_line : Answer → List ℕ
answer_line answer.Done = codes "ok"
answer_line (answer.Counted n) = codes "ok " ++ decimal n
answer_line (answer.Rows t) = codes "ok" ++ string_bytes t
answer_line (answer.File n t) = codes "ok " ++ decimal n ++ string_bytes t
answer_line (answer.Number n) = decimal n
answer_line (answer.Due d) = due_line d

-- a refusal by its number
abbrev pub refused_line : ℕ → List ℕ
refused_line n = codes "refused " ++ decimal n

-- a card's refusal: with the first column where a stale area is met
abbrev pub card_line : Refusal → List ℕ
card_line (Stale c) = refused_line (refusal_number (Stale c)) ++ codes " " ++ decimal c
card_line e = refused_line (refusal_number e)

-- a load's: with the letter and the byte of a file's fault, and 0 for the card
abbrev pub load_line : Option ℕ → ℕ → ℕ → List ℕ
load_line (Some letter) n spot = codes "refused load file " ++ decimal n
    ++ codes " " ++ encode_utf8 letter ++ codes " " ++ decimal spot
load_line None n spot = codes "refused load card " ++ decimal n ++ codes " " ++ decimal spot

-- a fault
abbrev pub fault_line : Fault → List ℕ
fault_line fault.Unknown = codes "unknown"
fault_line fault.Unreadable = codes "unreadable"
fault_line (fault.Element e) = refused_line (element_number e)
fault_line (fault.Draft e) = refused_line (draft_number e)
fault_line (fault.Selector e) = refused_line (call_number e)
fault_line (fault.Card e) = card_line e
fault_line (fault.Load e) = load_line (load_letter e) (load_number e) (load_spot e)
fault_line (fault.Tone e) = refused_line (tone_number e)
fault_line (fault.Memory e) = codes "no memory"

-- the calls, the refused ones among them, and the rows that are left
abbrev pub played_text : ℕ → ℕ → ℕ → List ℕ
played_text played refused left = codes "played " ++ decimal played ++ codes " calls, "
    ++ decimal refused ++ codes " refused, " ++ decimal left ++ codes " left"

-- the lines that were not read, with the number of the first; nothing where there are none
abbrev pub unknown_text : ℕ → Option ℕ → List ℕ
unknown_text count None = []
unknown_text count (Some first) =
    codes ", " ++ decimal count ++ codes " unknown, the first in line " ++ decimal first

-- the last line
abbrev pub last_line : Summary → List ℕ
last_line s = played_text s.tally.played s.tally.refused s.left
    ++ unknown_text s.tally.unknown s.tally.first
