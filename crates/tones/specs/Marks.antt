-- The kind of marks: no has code 0, yes code 1; no amount lowers one. Assumes nothing.
use Rattle.std.specs.Prelude.{ℕ, Bool, true, false, ℤ, pos, nat_le}
use Rattle.tones.specs.Kind.{Kind}
use Rattle.tones.specs.declared.marks.Mark.{Mark}
use Rattle.tones.specs.declared.marks.Mark.TheVariants.{No, Yes}

-- the code of a mark
abbrev pub mark_code : Mark → ℕ
mark_code No = 0
mark_code Yes = 1

-- the whole number that a mark stands for: its code
abbrev pub mark_value : Mark → ℤ
mark_value t = pos (mark_code t)

-- the row of a mark, and the mark of a row
abbrev pub mark_row : Mark → Bool
mark_row No = false
mark_row Yes = true

abbrev pub mark : Bool → Mark
mark false = No
mark true = Yes

abbrev pub marks : Kind Mark Bool
marks = record {
  count = 2;
  span = 0;
  code = mark_code;
  tone = λ c. mark (nat_le 1 c);
  lowered = λ t _. t;
  row = mark_row;
  counted = mark;
}
