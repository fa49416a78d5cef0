-- What is printed of a file: its picture as plain PGM, or why it is refused. Assumes nothing.
use Rattle.std.specs.Prelude.{ℕ, List, ◌++◌, codes}
use Rattle.std.specs.Fmt.{decimal}
use Rattle.std.specs.List.{flat_map}
use Rattle.pgm.specs.Numbers.{number_of, byte_of}
use Rattle.pgm.specs.declared.faults.FileFault.{FileFault}

-- a tone on a line
abbrev pub tone_line : ℕ → List ℕ
tone_line t = decimal t ++ codes "\n"

-- one tone a line
abbrev pub tone_lines : List ℕ → List ℕ
tone_lines ts = flat_map tone_line ts

-- a picture as plain PGM: its width, its height and its tones
abbrev pub plain : ℕ → ℕ → List ℕ → List ℕ
plain w h tones =
    codes "P2\n" ++ decimal w ++ codes " " ++ decimal h ++ codes "\n255\n" ++ tone_lines tones

-- a refusal: its number and the byte at fault
abbrev pub refused : FileFault → List ℕ
refused f =
    codes "refused " ++ decimal (number_of f) ++ codes " " ++ decimal (byte_of f) ++ codes "\n"
