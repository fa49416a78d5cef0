-- What the class of a byte tells of it.
use Rattle.std.proofs.Common.{◌≡◌, ℕ, ◌-◌, Bool, true, false, cond, eqb, refl, arith}
use Rattle.std.proofs.lemmas.Bool.Decides.{nat_tests}
use Rattle.std.proofs.lemmas.Bool.{eqb-true, eqb-false}
use Rattle.pgm.specs.Bytes.{line_end, white, digit}
use Rattle.pgm.specs.Classes.{class_of}
use Rattle.pgm.specs.declared.bytes.Class.{Class}
use Rattle.pgm.specs.declared.bytes.Class.TheVariants.{Line, Blank, Digit, Hash, Letter, Other}

pub data Sort (b : ℕ) : Class → Type 0 where
  a_line : line_end b ≡ true → white b ≡ true → digit b ≡ false → Sort b Line
  a_blank : line_end b ≡ false → white b ≡ true → digit b ≡ false → Sort b Blank
  a_digit : line_end b ≡ false → white b ≡ false → digit b ≡ true → Sort b (Digit (b - 48))
  a_hash : line_end b ≡ false → white b ≡ false → digit b ≡ false → b ≡ 35 → Sort b Hash
  a_letter : line_end b ≡ false → white b ≡ false → digit b ≡ false → b ≡ 80 → Sort b Letter
  another : line_end b ≡ false → white b ≡ false → digit b ≡ false → (b ≡ 35 → ⊥) → (b ≡ 80 → ⊥) → Sort b Other

line_white : (b : ℕ) → line_end b ≡ true → white b ≡ true
line_white b e = grind (arith, nat_tests)

pub white_digit : (b : ℕ) → white b ≡ true → digit b ≡ false
white_digit b e = grind (arith, nat_tests)

sorted : (b : ℕ) (l w d h p : Bool) → line_end b ≡ l → white b ≡ w → digit b ≡ d → eqb b 35 ≡ h → eqb b 80 ≡ p →
    Sort b (cond l Line (cond w Blank (cond d (Digit (b - 48)) (cond h Hash (cond p Letter Other)))))
sorted b true w d h p el ew ed eh ep = a_line el (line_white b el) (white_digit b (line_white b el))
sorted b false true d h p el ew ed eh ep = a_blank el ew (white_digit b ew)
sorted b false false true h p el ew ed eh ep = a_digit el ew ed
sorted b false false false true p el ew ed eh ep = a_hash el ew ed (eqb-true b 35 eh)
sorted b false false false false true el ew ed eh ep = a_letter el ew ed (eqb-true b 80 ep)
sorted b false false false false false el ew ed eh ep = another el ew ed (eqb-false b 35 eh) (eqb-false b 80 ep)

pub sort : (b : ℕ) → Sort b (class_of b)
sort b = sorted b (line_end b) (white b) (digit b) (eqb b 35) (eqb b 80) refl refl refl refl refl
