-- The kind of greys: 0 to 255, each its own code; lowered by t - a, held to 0..255.
-- Assumes nothing.
use Rattle.std.specs.Prelude.{ℕ, ◌<◌, ℤ, pos, ◌-ℤ◌, unsigned_abs}
use Rattle.std.proofs.Common.{arith}
use Rattle.std.proofs.lemmas.Int.{ints, clamps}
use Rattle.tones.specs.Kind.{Kind, nearest, lowered_within}
use Rattle.tones.specs.declared.greys.Grey.{Grey}

pub level_within : (z : ℤ) → unsigned_abs (nearest (pos 0) (pos 255) z) < 256
level_within z = omega (arith, ints, clamps)

-- the grey of a whole number held to 0..255
abbrev pub grey : ℤ → Grey
grey z = record { level = unsigned_abs (nearest (pos 0) (pos 255) z); within = level_within z }

-- the whole number that a grey stands for
abbrev pub grey_value : Grey → ℤ
grey_value t = pos t.level

-- the difference, held to 0..255
abbrev pub grey_less : Grey → ℤ → Grey
grey_less t a = grey (grey_value t -ℤ a)

abbrev pub greys : Kind Grey ℕ
greys = record {
  count = 256;
  span = 255;
  code = λ t. t.level;
  tone = λ c. grey (pos c);
  lowered = lowered_within 255 grey_less;
  row = λ t. t.level;
  counted = λ n. grey (pos n);
}
