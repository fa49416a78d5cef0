-- What the program's first argument asks for. Assumes nothing.
use Rattle.std.specs.Prelude.{◌≡◌, ℕ, ◌⊎◌, List, Some, None, Option, codes, ◌≢◌}
use Rattle.clean.specs.declared.form.Form.TheVariants.{Plain, Raw}
use Rattle.clean.specs.declared.request.Request.{Request}
use Rattle.clean.specs.declared.request.Request.TheVariants.{Card, Usage, Unknown}

-- without an argument the card as plain PGM, with `raw` as a raw file, with `--help` or `-h` the
-- usage; any other argument is unknown
abbrev pub Asks : Option (List ℕ) → Request → Type 0
Asks argument (Card Plain) = argument ≡ None
Asks argument (Card Raw) = argument ≡ Some (codes "raw")
Asks argument Usage = (argument ≡ Some (codes "--help")) ⊎ (argument ≡ Some (codes "-h"))
Asks argument (Unknown word) = (argument ≡ Some word.now) × (word.now ≢ codes "raw")
    × (word.now ≢ codes "--help") × (word.now ≢ codes "-h")
