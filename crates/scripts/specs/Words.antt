-- What words write. Assumes nothing.
use Rattle.std.specs.Prelude.{◌≡◌, ℕ, ◌^◌, ◌<◌, List, [], ℤ, Some, None, Ok, Err, codes, Option, Result, FitsSigned, slice_index_or}
use Rattle.std.specs.Borrow.{Bor}
use Rattle.std.specs.Int.{Width}
use Rattle.std.specs.Str.Parse.{IsNumeral, digits_value, without_leading_plus, without_leading_sign, signed_digits_value}
use Rattle.scripts.specs.declared.commands.Tones.{Tones}
use Rattle.scripts.specs.declared.commands.Tones.TheVariants.{Mark, Grey, Relief, Colour}

-- all that is written is read: what is read is written so, and nothing is read only where nothing
-- is written so
abbrev pub ReadsAll : {A : Type 0} → (A → Type 0) → Option A → Type 0
ReadsAll written (Some a) = written a
ReadsAll {A} written None = (a : A) → written a → ⊥

-- what a type reads in a word: the value, or nothing where it reads none
abbrev pub Read : {N E : Type 0} → (List ℕ → Result N E → Type 0) → List ℕ → Option N → Type 0
Read reads w (Some n) = reads w (Ok n)
Read {E = E} reads w None = (e : E) × reads w (Err e)

-- a word writes the number n, below 2 ^ bits, in digits, a plus before them or not
abbrev pub Natural : ℕ → List ℕ → ℕ → Type 0
Natural bits w n = IsNumeral 10 (without_leading_plus w)
    × (digits_value 10 (without_leading_plus w) < 2 ^ bits)
    × (n ≡ digits_value 10 (without_leading_plus w))

-- a word writes the whole number z in digits, a sign before them or not
abbrev pub Integer : Width → List ℕ → ℤ → Type 0
Integer wide w z = IsNumeral 10 (without_leading_sign w)
    × FitsSigned wide (signed_digits_value 10 w) × (z ≡ signed_digits_value 10 w)

-- the words after the name of a line
abbrev pub Rest : Type 0
Rest = List (Bor (List ℕ))

-- the word at a place
abbrev pub word : Rest → ℕ → List ℕ
word ws i = (slice_index_or ws i (record { ref_ptr = (0, 0); now = [] })).now

-- the name of each kind of tones
abbrev pub tones_name : Tones → List ℕ
tones_name Mark = codes "mark"
tones_name Grey = codes "grey"
tones_name Relief = codes "relief"
tones_name Colour = codes "colour"
