-- The laws of marks.
use Rattle.std.specs.Prelude.{◌≡◌, ℕ, zero, suc, ◌<◌, Bool, true, false, pos, refl}
use Rattle.std.proofs.Common.{ap, arith}
use Rattle.std.proofs.lemmas.Bool.{le-leb}
use Rattle.tones.specs.Codes.{whole_by_codes}
use Rattle.tones.specs.Kind.{Laws}
use Rattle.tones.specs.Whole.{WholeNumbers}
use Rattle.tones.specs.Marks.{mark, mark_value, marks}
use Rattle.tones.specs.declared.marks.Mark.{Mark}
use Rattle.tones.specs.declared.marks.Mark.TheVariants.{No, Yes}

code_small : (m : Mark) → marks.code m < 2
code_small No = omega arith
code_small Yes = omega arith

code_back : (m : Mark) → marks.tone (marks.code m) ≡ m
code_back No = refl
code_back Yes = refl

code_there : (c : ℕ) → c < 2 → marks.code (marks.tone c) ≡ c
code_there zero h = refl
code_there (suc zero) h = refl
code_there (suc (suc c)) h = absurd (omega arith)

row_back : (m : Mark) → marks.counted (marks.row m) ≡ m
row_back No = refl
row_back Yes = refl

-- every row is a mark's
every_row : (b : Bool) → marks.row (mark b) ≡ b
every_row false = refl
every_row true = refl

pub mark_laws : Laws marks
mark_laws = record {
  some = omega arith;
  count_fits = omega arith;
  span_fits = omega arith;
  within = code_small;
  back = code_back;
  there = code_there;
  top = λ c h. ap mark (le-leb 1 c (omega arith));
  still = λ t. refl;
  beyond = λ t a h. refl;
  keeps = λ t u a h. h;
  laid = row_back;
  outside = λ b none. absurd (none (mark b) (every_row b));
}

pub mark_whole : WholeNumbers marks (pos 0) (pos 1) mark_value
mark_whole = whole_by_codes marks mark_laws refl
