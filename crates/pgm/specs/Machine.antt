-- How the header machine goes: between the code and the grammar. No public promise names it.
use Rattle.std.specs.Prelude.{◌≡◌, ℕ, suc, ◌+◌, ◌-◌, ◌*◌, ◌<◌, ◌≤◌, min, Bool, true, false, if◌then◌else◌, ◌&&◌, ◌⊎◌, List, [], ◌∷◌, length, drop, Some, None, Ok, Err, Option, Result, ◌==◌, nat_le, slice_index}
use Rattle.std.specs.Borrow.{Bor}
use Rattle.pgm.specs.Classes.{class_of}
use Rattle.pgm.specs.Grammar.{limit}
use Rattle.pgm.specs.declared.bytes.Class.{Class}
use Rattle.pgm.specs.declared.bytes.Class.TheVariants.{Line, Blank, Digit, Hash, Letter, Other}
use Rattle.pgm.specs.declared.faults.HeaderFault.{HeaderFault}
use Rattle.pgm.specs.declared.faults.HeaderFault.TheVariants.{Mark as MarkFault, Byte, Number as NumberFault, Early}
use Rattle.pgm.specs.declared.faults.FileFault.{FileFault}
use Rattle.pgm.specs.declared.faults.FileFault.TheVariants.{Header as HeaderRefusal, Count, Sample}
use Rattle.pgm.specs.declared.machine.Known.{Known}
use Rattle.pgm.specs.declared.machine.Known.TheVariants.{Nothing, Width, Size}
use Rattle.pgm.specs.declared.machine.Header.{Header}
use Rattle.pgm.specs.declared.machine.Numeral.{Numeral}
use Rattle.pgm.specs.declared.machine.State.{State}
use Rattle.pgm.specs.declared.machine.State.TheVariants.{Mark, Gap, Number, Comment, Raster, Refused}

abbrev pub a_numeral : Known → ℕ → ℕ → Numeral
a_numeral k first v = record { known = k; first = first; value = v }

-- in a number that begins at the byte first and has the value v so far
abbrev pub in_number : Known → ℕ → ℕ → State
in_number k first v = Number (a_numeral k first v)

-- a number's value with one digit more, held above every limit
abbrev pub grown : ℕ → ℕ → ℕ
grown v d = min (v * 10 + d) 1025

abbrev pub white_class : Class → Bool
white_class Line = true
white_class Blank = true
white_class (Digit d) = false
white_class Hash = false
white_class Letter = false
white_class Other = false

abbrev pub is_letter : Class → Bool
is_letter Line = false
is_letter Blank = false
is_letter (Digit d) = false
is_letter Hash = false
is_letter Letter = true
is_letter Other = false

abbrev pub is_five : Class → Bool
is_five Line = false
is_five Blank = false
is_five (Digit d) = d == 5
is_five Hash = false
is_five Letter = false
is_five Other = false

-- after a byte of the mark
abbrev pub marked : ℕ → Class → State
marked at c =
    if at == 0 then (if is_letter c then Mark else Refused (MarkFault 0))
    else (if at == 1 then (if is_five c then Mark else Refused (MarkFault 1))
    else (if white_class c then Gap Nothing else Refused (Byte at)))

-- after a number within its limits and one white byte
abbrev pub moved_on : Known → ℕ → ℕ → State
moved_on Nothing v at = Gap (Width v)
moved_on (Width w) v at = Gap (Size w v)
moved_on (Size w h) v at = Raster (record { width = w; height = h; maxval = v; end = at + 1 })

abbrev pub within_limits : Known → ℕ → Bool
within_limits k v = nat_le 1 v && nat_le v (limit k)

-- after a number and a byte that is no digit
abbrev pub closed : Known → ℕ → ℕ → ℕ → Bool → State
closed k first v at white =
    if within_limits k v
    then (if white then moved_on k v at else Refused (Byte at))
    else Refused (NumberFault first)

abbrev pub gapped : Known → ℕ → Class → State
gapped k at Line = Gap k
gapped k at Blank = Gap k
gapped k at (Digit d) = in_number k at d
gapped k at Hash = Comment k
gapped k at Letter = Refused (Byte at)
gapped k at Other = Refused (Byte at)

abbrev pub numbered : Known → ℕ → ℕ → ℕ → Class → State
numbered k first v at Line = closed k first v at true
numbered k first v at Blank = closed k first v at true
numbered k first v at (Digit d) = in_number k first (grown v d)
numbered k first v at Hash = closed k first v at false
numbered k first v at Letter = closed k first v at false
numbered k first v at Other = closed k first v at false

abbrev pub commented : Known → Class → State
commented k Line = Gap k
commented k Blank = Comment k
commented k (Digit d) = Comment k
commented k Hash = Comment k
commented k Letter = Comment k
commented k Other = Comment k

-- after a byte of the class c with the number at
abbrev pub after_class : ℕ → Class → State → State
after_class at c Mark = marked at c
after_class at c (Gap k) = gapped k at c
after_class at c (Number n) = numbered n.known n.first n.value at c
after_class at c (Comment k) = commented k c
after_class at c (Raster h) = Raster h
after_class at c (Refused f) = Refused f

-- after the byte b with the number at
unfoldable pub after_byte : ℕ → ℕ → State → State
after_byte at b s = after_class at (class_of b) s

-- after the bytes of a list, the first of which has the number at
unfoldable pub runs : State → ℕ → List ℕ → State
runs s at [] = s
runs s at (b ∷ bs) = runs (after_byte at b s) (suc at) bs

-- nothing more is taken in
abbrev pub final : State → Bool
final Mark = false
final (Gap k) = false
final (Number n) = false
final (Comment k) = false
final (Raster h) = true
final (Refused f) = true

-- what the state says where no byte is left of a file that long
abbrev pub closing : ℕ → State → Result Header HeaderFault
closing n Mark = Err (Early n)
closing n (Gap k) = Err (Early n)
closing n (Number m) =
    Err (if within_limits m.known m.value then Early n else NumberFault m.first)
closing n (Comment k) = Err (Early n)
closing n (Raster h) = Ok h
closing n (Refused f) = Err f

-- what the header of a file says
abbrev pub header_of : List ℕ → Result Header HeaderFault
header_of file = closing (length file) (runs Mark 0 file)

-- the reader gives the byte n of a file with its number, and goes on to n'
abbrev pub Advanced : List ℕ → ℕ → Option (ℕ × ℕ) → ℕ → Type 0
Advanced file n None n' = (length file ≤ n) × (n' ≡ n)
Advanced file n (Some p) n' =
    (n < length file) × (p.0 ≡ n) × (p.1 ≡ slice_index file n) × (n' ≡ n + 1)

-- the first of the samples that is above m
abbrev pub FirstAbove : ℕ → List ℕ → Option ℕ → Type 0
FirstAbove m xs None = (i : ℕ) → i < length xs → slice_index xs i ≤ m
FirstAbove m xs (Some i) =
    (i < length xs) × (m < slice_index xs i) × ((j : ℕ) → j < i → slice_index xs j ≤ m)

-- what is wrong with the samples, which begin at the byte n of a file
abbrev pub Unsampled : List ℕ → ℕ → Header → FileFault → Type 0
Unsampled file n h (HeaderRefusal f) = ⊥
Unsampled file n h (Count at) =
    ((length file - n < h.width * h.height) × (at ≡ length file))
    ⊎ ((h.width * h.height < length file - n) × (at ≡ n + h.width * h.height))
Unsampled file n h (Sample at) =
    (length file - n ≡ h.width * h.height)
    × ((i : ℕ) × (at ≡ n + i) × FirstAbove h.maxval (drop n file) (Some i))

-- the samples from the byte n of a file on
abbrev pub Sampled : List ℕ → ℕ → Header → Result (Bor (List ℕ)) FileFault → Type 0
Sampled file n h (Ok s) =
    (s.now ≡ drop n file)
    × (length file - n ≡ h.width * h.height)
    × FirstAbove h.maxval (drop n file) None
Sampled file n h (Err f) = Unsampled file n h f
