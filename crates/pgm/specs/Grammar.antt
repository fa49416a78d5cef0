-- The raw PGM format: what a file is, and what is wrong with one that is none.
use Rattle.std.specs.Prelude.{◌≡◌, ℕ, ◌+◌, ◌-◌, ◌*◌, ◌<◌, ◌≤◌, true, false, List, [], ◌∷◌, ◌++◌, length, ◌≢◌, slice_index}
use Rattle.pgm.specs.Bytes.{line_end, white, digit}
use Rattle.pgm.specs.declared.faults.HeaderFault.TheVariants.{Mark, Byte, Number, Early}
use Rattle.pgm.specs.declared.faults.FileFault.{FileFault}
use Rattle.pgm.specs.declared.faults.FileFault.TheVariants.{Header, Count, Sample}
use Rattle.pgm.specs.declared.machine.Known.{Known}
use Rattle.pgm.specs.declared.machine.Known.TheVariants.{Nothing, Width, Size}

-- the bytes of a comment between its # and its end
pub data Remark : List ℕ → Type 0 where
  none : Remark []
  more : {c : List ℕ} (b : ℕ) → Remark c → line_end b ≡ false → Remark (c ++ b ∷ [])

-- A gap is a white byte, and then any number of white bytes and comments.
pub data Gap : List ℕ → Type 0 where
  one : (b : ℕ) → white b ≡ true → Gap (b ∷ [])
  more : {g : List ℕ} (b : ℕ) → Gap g → white b ≡ true → Gap (g ++ b ∷ [])
  comment :
      {g c : List ℕ} (b : ℕ) → Gap g → Remark c → line_end b ≡ true
      → Gap ((g ++ 35 ∷ c) ++ b ∷ [])

-- the digits of a number, and its value
pub data Digits : List ℕ → ℕ → Type 0 where
  one : (b : ℕ) → digit b ≡ true → Digits (b ∷ []) (b - 48)
  more :
      {d : List ℕ} {v : ℕ} (b : ℕ) → Digits d v → digit b ≡ true
      → Digits (d ++ b ∷ []) (v * 10 + (b - 48))

abbrev pub Within : ℕ → ℕ → Type 0
Within most v = (1 ≤ v) × (v ≤ most)

-- What Before says, and then a gap and the digits of v, which is from 1 to most.
pub record Field (Before : List ℕ → Type 0) (most v : ℕ) (bs : List ℕ) : Type 0 where
  pub before : List ℕ
  pub gap : List ℕ
  pub digits : List ℕ
  pub whole : bs ≡ (before ++ gap) ++ digits
  pub sound : Before before
  pub gapped : Gap gap
  pub valued : Digits digits v
  pub within : Within most v

-- the mark P5
abbrev pub P5 : List ℕ
P5 = 80 ∷ 53 ∷ []

-- the greatest value of the number that comes after those known: of the width, the height, maxval
abbrev pub limit : Known → ℕ
limit Nothing = 1024
limit (Width w) = 256
limit (Size w h) = 255

-- the header up to the numbers that are known
abbrev pub Upto : Known → List ℕ → Type 0
Upto Nothing = λ bs. bs ≡ P5
Upto (Width w) = Field (λ bs. bs ≡ P5) 1024 w
Upto (Size w h) = Field (Field (λ bs. bs ≡ P5) 1024 w) 256 h

-- the whole header, with the one white byte at its end
pub record Whole (w h m : ℕ) (bs : List ℕ) : Type 0 where
  pub numbers : List ℕ
  pub last : ℕ
  pub whole : bs ≡ numbers ++ last ∷ []
  pub fields : Field (Upto (Size w h)) 255 m numbers
  pub blank : white last ≡ true

-- A file: a header, and then as many samples as the size says, none above maxval.
pub record Pgm (file : List ℕ) (w h m : ℕ) (samples : List ℕ) : Type 0 where
  pub header : List ℕ
  pub whole : file ≡ header ++ samples
  pub sound : Whole w h m header
  pub count : length samples ≡ w * h
  pub tones : (i : ℕ) → i < length samples → slice_index samples i ≤ m

-- no digit follows
abbrev pub NoDigit : List ℕ → Type 0
NoDigit [] = Unit {0}
NoDigit (b ∷ bs) = digit b ≡ false

-- The file ends within its header.
pub data Short (file : List ℕ) : Type 0 where
  nothing : file ≡ [] → Short file
  in_mark : file ≡ 80 ∷ [] → Short file
  after_mark : file ≡ P5 → Short file
  in_gap : (k : Known) (a g : List ℕ) → Upto k a → Gap g → file ≡ a ++ g → Short file
  in_comment :
      (k : Known) (a g c : List ℕ) → Upto k a → Gap g → Remark c → file ≡ (a ++ g) ++ 35 ∷ c
      → Short file
  after_number : (k : Known) (v : ℕ) → Field (Upto k) (limit k) v file → Short file

-- The first fault of a file: what stands before it is sound, the numbers within their limits.
pub data Fault (file : List ℕ) : FileFault → Type 0 where
  -- The first byte is not P, or the second not 5.
  no_P : (b : ℕ) (rest : List ℕ) → file ≡ b ∷ rest → b ≢ 80 → Fault file (Header (Mark 0))
  no_5 : (b : ℕ) (rest : List ℕ) → file ≡ 80 ∷ b ∷ rest → b ≢ 53 → Fault file (Header (Mark 1))
  -- A byte that cannot stand there: after the mark, where a gap must begin,
  after_mark :
      (b : ℕ) (rest : List ℕ) → file ≡ 80 ∷ 53 ∷ b ∷ rest → white b ≡ false
      → Fault file (Header (Byte 2))
  -- in a gap, where white space, a comment or a number must follow,
  in_gap :
      (k : Known) (a g : List ℕ) (b : ℕ) (rest : List ℕ) → Upto k a → Gap g
      → file ≡ (a ++ g) ++ b ∷ rest → white b ≡ false → digit b ≡ false → b ≢ 35
      → Fault file (Header (Byte (length (a ++ g))))
  -- and after a number, where it must go on or white space follow.
  after_number :
      (k : Known) (v : ℕ) (a : List ℕ) (b : ℕ) (rest : List ℕ) → Field (Upto k) (limit k) v a
      → file ≡ a ++ b ∷ rest → white b ≡ false → digit b ≡ false
      → Fault file (Header (Byte (length a)))
  -- A number outside its limits, at its first digit.
  outside_limits :
      (k : Known) (v : ℕ) (a g d rest : List ℕ) → Upto k a → Gap g → Digits d v
      → file ≡ ((a ++ g) ++ d) ++ rest → NoDigit rest → (Within (limit k) v → ⊥)
      → Fault file (Header (Number (length (a ++ g))))
  -- The header ends early.
  early : Short file → Fault file (Header (Early (length file)))
  -- Samples are missing, or there are too many, at the first extra byte.
  missing :
      (w h m : ℕ) (a rest : List ℕ) → Whole w h m a → file ≡ a ++ rest → length rest < w * h
      → Fault file (Count (length file))
  extra :
      (w h m : ℕ) (a rest : List ℕ) → Whole w h m a → file ≡ a ++ rest → w * h < length rest
      → Fault file (Count (length a + w * h))
  -- The first sample above maxval, where there are as many as there should be.
  tone :
      (w h m : ℕ) (a rest : List ℕ) (i : ℕ) → Whole w h m a → file ≡ a ++ rest
      → length rest ≡ w * h → i < length rest → m < slice_index rest i
      → ((j : ℕ) → j < i → slice_index rest j ≤ m) → Fault file (Sample (length a + i))
