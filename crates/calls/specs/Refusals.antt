-- The number of each refusal of a call on a card, and its cause in words. Assumes nothing.
use Rattle.std.specs.Prelude.{ℕ, List, ◌++◌, codes}
use Rattle.std.specs.Fmt.{decimal}
use Rattle.calls.specs.declared.refusals.Refusal.{Refusal}
use Rattle.calls.specs.declared.refusals.Refusal.TheVariants.{Size, Memory, Range, Unopened, Outside, Count, TooFewSteps, TooManyStages, Amount, Stale, NoRoom}

abbrev pub refusal_number : Refusal → ℕ
refusal_number Size = 13
refusal_number Memory = 14
refusal_number Range = 15
refusal_number Unopened = 16
refusal_number Outside = 17
refusal_number Count = 18
refusal_number TooFewSteps = 19
refusal_number TooManyStages = 20
refusal_number Amount = 21
refusal_number (Stale c) = 22
refusal_number NoRoom = 24

-- the cause of each refusal
abbrev pub cause : Refusal → List ℕ
cause Size = codes "size or stages outside their limits"
cause Memory = codes "memory of another length"
cause Range = codes "range smaller than the number of tones"
cause Unopened = codes "card without size"
cause Outside = codes "empty or not wholly on the card"
cause Count = codes "wrong count of tones"
cause TooFewSteps = codes "fewer steps than declared"
cause TooManyStages = codes "more stages than the card has room for"
cause Amount = codes "amount outside the span of the tones"
cause (Stale c) = codes "stale, first at this column"
cause NoRoom = codes "fewer bytes than the file has"

-- the number and the cause, and where a piece is stale the first column met
abbrev pub refusal_text : Refusal → List ℕ
refusal_text (Stale c) = decimal 22 ++ codes ": " ++ cause (Stale c) ++ codes ": " ++ decimal c
refusal_text e = decimal (refusal_number e) ++ codes ": " ++ cause e
