-- What is printed of a file. Assumes nothing.
use Rattle.std.specs.Prelude.{◌≡◌, ℕ, cond, List, length, codes, nat_lt}
use Rattle.pgm.specs.Reading.{Reading, Reads}
use Rattle.pgm.specs.Reading.Reading.{Shows, Faulty}
use Rattle.pgm.specs.Plain.{plain, refused}
use Rattle.pgm.specs.Raw.{raw_file}
use Rattle.clean.specs.Cleaning.{Eroded, size}
use Rattle.clean.specs.declared.form.Form.{Form}
use Rattle.clean.specs.declared.form.Form.TheVariants.{Plain, Raw}

-- a card of a size and of tones in each form: as plain PGM, or as a raw file
abbrev pub in_form : Form → ℕ → ℕ → List ℕ → List ℕ
in_form Plain w h tones = plain w h tones
in_form Raw w h tones = raw_file w h tones

-- a picture is printed eroded by the cross of order 2, a faulty file as refused
abbrev pub Output : Form → Reading → List ℕ → Type 0
Output form (Shows w h m samples) bs =
    (tones : List ℕ) × Eroded (size w h) samples tones × (bs ≡ in_form form w h tones)
Output form (Faulty f) bs = bs ≡ refused f

-- a file of more than 16,640 bytes is too large, whatever it holds; any other is printed as it reads
abbrev pub Printed : Form → List ℕ → List ℕ → Type 0
Printed form file bs =
    cond (nat_lt 16640 (length file))
    (bs ≡ codes "too large\n")
    ((x : Reading) × Reads file x × Output form x bs)
