-- What reading a file gives: its picture or its first fault, and never two of them.
use Rattle.std.specs.Prelude.{◌≡◌, ℕ, List, Ok, Err, Result}
use Rattle.pgm.specs.Grammar.{Pgm, Fault}
use Rattle.pgm.specs.declared.faults.FileFault.{FileFault}
use Rattle.pgm.specs.declared.picture.Picture.{Picture}

pub data Reading : Type 0 where
  -- width, height, maxval and the samples
  Shows : ℕ → ℕ → ℕ → List ℕ → Reading
  Faulty : FileFault → Reading

-- the file is read so
abbrev pub Reads : List ℕ → Reading → Type 0
Reads file (Shows w h m samples) = Pgm file w h m samples
Reads file (Faulty f) = Fault file f

-- a file has one reading at most
abbrev pub OneReading : Type 0
OneReading = (file : List ℕ) (a b : Reading) → Reads file a → Reads file b → a ≡ b

-- what an answer says
abbrev pub reading : Result Picture FileFault → Reading
reading (Ok p) = Shows p.width p.height p.maxval p.samples.now
reading (Err f) = Faulty f
