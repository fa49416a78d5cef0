-- The number, the letter and the byte of each fault, and its cause in words. Assumes nothing.
use Rattle.std.specs.Prelude.{ℕ, List, ◌++◌, codes, encode_utf8}
use Rattle.std.specs.Fmt.{decimal}
use Rattle.pgm.specs.declared.faults.HeaderFault.{HeaderFault}
use Rattle.pgm.specs.declared.faults.HeaderFault.TheVariants.{Mark, Byte, Number, Early}
use Rattle.pgm.specs.declared.faults.FileFault.{FileFault}
use Rattle.pgm.specs.declared.faults.FileFault.TheVariants.{Header, Count, Sample}

-- every fault of a file is refusal 23
abbrev pub number_of : FileFault → ℕ
number_of (Header f) = 23
number_of (Count n) = 23
number_of (Sample n) = 23

-- a to f, by their codes
abbrev pub header_letter : HeaderFault → ℕ
header_letter (Mark n) = 97
header_letter (Byte n) = 98
header_letter (Number n) = 99
header_letter (Early n) = 100

abbrev pub letter_of : FileFault → ℕ
letter_of (Header f) = header_letter f
letter_of (Count n) = 101
letter_of (Sample n) = 102

-- the byte that is at fault
abbrev pub header_byte : HeaderFault → ℕ
header_byte (Mark n) = n
header_byte (Byte n) = n
header_byte (Number n) = n
header_byte (Early n) = n

abbrev pub byte_of : FileFault → ℕ
byte_of (Header f) = header_byte f
byte_of (Count n) = n
byte_of (Sample n) = n

-- the cause in words
abbrev pub header_cause : HeaderFault → List ℕ
header_cause (Mark n) = codes "no P5 at the beginning"
header_cause (Byte n) = codes "a byte that cannot stand there"
header_cause (Number n) = codes "a number outside its limits"
header_cause (Early n) = codes "the header ends early"

abbrev pub cause_of : FileFault → List ℕ
cause_of (Header f) = header_cause f
cause_of (Count n) = codes "samples missing, or too many"
cause_of (Sample n) = codes "a sample above maxval"

-- a fault as it is shown: the letter, the byte and the cause, as `c 7: a number outside its limits`
abbrev pub header_text : HeaderFault → List ℕ
header_text f =
    encode_utf8 (header_letter f) ++ codes " " ++ decimal (header_byte f)
    ++ codes ": " ++ header_cause f

-- of a file with the number before, as `23 c 7: a number outside its limits`
abbrev pub fault_text : FileFault → List ℕ
fault_text f =
    decimal (number_of f) ++ codes " " ++ encode_utf8 (letter_of f)
    ++ codes " " ++ decimal (byte_of f) ++ codes ": " ++ cause_of f
