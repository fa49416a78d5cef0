-- How the rows of each kind are written and shown as words. Assumes nothing.
use Rattle.std.specs.Prelude.{◌≡◌, ◌⊎◌, ℕ, ◌<◌, Bool, if◌then◌else◌, List, [], ◌∷◌, ◌++◌, length, ℤ, Some, None, Ok, Option, Result, codes}
use Rattle.std.specs.Fmt.{decimal, signed_decimal}
use Rattle.std.specs.Int.{w16}
use Rattle.std.specs.List.{flat_map}
use Rattle.scripts.specs.Words.{Rest, Read, Natural, Integer, word}
use Rattle.scripts.specs.declared.answers.Fault.{Fault}
use Rattle.scripts.specs.declared.answers.Fault.TheVariants.{Unknown, Memory}
use Rattle.std.specs.declared.alloc.AllocError.{AllocError}
use Rattle.tones.specs.declared.colours.ColourRow.{ColourRow}

-- words write a mark, 0 or 1
abbrev pub MarkWritten : Rest → Bool → Type 0
MarkWritten ws b = (length ws ≡ 1) × (word ws 0 ≡ (if b then codes "1" else codes "0"))

-- a grey
abbrev pub GreyWritten : Rest → ℕ → Type 0
GreyWritten ws n = (length ws ≡ 1) × Natural 8 (word ws 0) n

-- a relief, with a sign or not
abbrev pub ReliefWritten : Rest → ℤ → Type 0
ReliefWritten ws z = (length ws ≡ 1) × Integer w16 (word ws 0) z

-- a colour: its hue, its saturation and its brightness
abbrev pub ColourWritten : Rest → ColourRow → Type 0
ColourWritten ws r = (length ws ≡ 3) × Natural 16 (word ws 0) r.hue
    × Natural 8 (word ws 1) r.saturation × Natural 8 (word ws 2) r.brightness

-- what a type reads in the only word
abbrev pub ReadsOnly : {N E : Type 0} → (List ℕ → Result N E → Type 0) → Rest → Option N → Type 0
ReadsOnly reads ws (Some n) = (length ws ≡ 1) × reads (word ws 0) (Ok n)
ReadsOnly reads ws None = length ws ≡ 1 → Read reads (word ws 0) None

-- a row is written by so many words, at least one
abbrev pub HasParts : {R : Type 0} → (Rest → R → Type 0) → ℕ → Type 0
HasParts {R} Written n = (0 < n) × ((ws : Rest) (row : R) → Written ws row → length ws ≡ n)

-- a number after a space
abbrev pub spaced : ℕ → List ℕ
spaced n = codes " " ++ decimal n

abbrev pub mark_shown : Bool → List ℕ
mark_shown b = spaced (if b then 1 else 0)

abbrev pub relief_shown : ℤ → List ℕ
relief_shown z = codes " " ++ signed_decimal z

abbrev pub colour_shown : ColourRow → List ℕ
colour_shown r = spaced r.hue ++ spaced r.saturation ++ spaced r.brightness

-- words write rows: first those of the first row, then those of the others
abbrev pub RowsWritten : {R : Type 0} → (Rest → R → Type 0) → Rest → List R → Type 0
RowsWritten Written ws [] = ws ≡ []
RowsWritten Written ws (row ∷ rows) = (first others : Rest) × (ws ≡ first ++ others)
    × Written first row × RowsWritten Written others rows

-- rows are shown one after another
abbrev pub rows_text : {R : Type 0} → (R → List ℕ) → List R → List ℕ
rows_text shown rows = flat_map shown rows

-- the words write nothing so, or there was no memory to read it
abbrev pub NotRead : {A : Type 0} → (A → Type 0) → Fault → Type 0
NotRead {A} written f =
    ((f ≡ Unknown) × ((a : A) → written a → ⊥)) ⊎ ((m : AllocError) × (f ≡ Memory m))
