-- A picture of greys as a raw file: as it is written, and what becomes of lent bytes. Assumes nothing.
use Rattle.std.specs.Prelude.{◌≡◌, ℕ, ◌*◌, ◌<◌, ◌≤◌, ◌↔◌, if◌then◌else◌, List, ◌++◌, length, drop, Some, None, Option, codes, nat_le, slice_index}
use Rattle.std.specs.Fmt.{decimal}
use Rattle.pgm.specs.Grammar.{Within}
use Rattle.pgm.specs.Reading.{Reads}
use Rattle.pgm.specs.Reading.Reading.{Shows}

-- the header of a raw file of a size, with the maxval 255
abbrev pub raw_header : ℕ → ℕ → List ℕ
raw_header w h = codes "P5\n" ++ decimal w ++ codes " " ++ decimal h ++ codes "\n255\n"

-- the raw file of a size and of greys, row by row
abbrev pub raw_file : ℕ → ℕ → List ℕ → List ℕ
raw_file w h greys = raw_header w h ++ greys

-- how many of so many lent bytes a file takes: all of its own, or none where they are fewer
abbrev pub taken_by : List ℕ → ℕ → Option ℕ
taken_by file lent = if nat_le (length file) lent then Some (length file) else None

-- lent bytes with a file in the first of them
abbrev pub over : List ℕ → List ℕ → List ℕ
over file lent = file ++ drop (length file) lent

-- the same; as they were where they are fewer than the file's
abbrev pub filled_with : List ℕ → List ℕ → List ℕ
filled_with file lent = if nat_le (length file) (length lent) then over file lent else lent

-- a width, a height and greys are a picture
pub record IsPicture (w h : ℕ) (greys : List ℕ) : Type 0 where
  pub wide : Within 1024 w
  pub high : Within 256 h
  pub count : length greys ≡ w * h
  pub tones : (i : ℕ) → i < length greys → slice_index greys i ≤ 255

-- the header of a picture's file has at most 16 bytes
abbrev pub ShortHeader : Type 0
ShortHeader = (w h : ℕ) → Within 1024 w → Within 256 h → length (raw_header w h) ≤ 16

-- the file of a picture is read as that picture
abbrev pub ReadsBack : Type 0
ReadsBack =
    (w h : ℕ) (greys : List ℕ) → IsPicture w h greys →
    Reads (raw_file w h greys) (Shows w h 255 greys)

-- a picture has one file, and no other picture has it
abbrev pub OneFile : Type 0
OneFile =
    (w h v k : ℕ) (greys others : List ℕ) → IsPicture w h greys → IsPicture v k others →
    (raw_file w h greys ≡ raw_file v k others) ↔ ((w ≡ v) × (h ≡ k) × (greys ≡ others))
