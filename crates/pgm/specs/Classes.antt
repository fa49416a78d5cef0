-- The class of a byte.
use Rattle.std.specs.Prelude.{ℕ, ◌-◌, if◌then◌else◌, ◌==◌}
use Rattle.pgm.specs.Bytes.{line_end, white, digit}
use Rattle.pgm.specs.declared.bytes.Class.{Class}
use Rattle.pgm.specs.declared.bytes.Class.TheVariants.{Line, Blank, Digit, Hash, Letter, Other}

abbrev pub class_of : ℕ → Class
class_of b =
    if line_end b then Line
    else (if white b then Blank
    else (if digit b then Digit (b - 48)
    else (if b == 35 then Hash
    else (if b == 80 then Letter else Other))))
