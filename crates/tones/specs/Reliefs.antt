-- The kind of reliefs: heights from -255 to 255; lowered by r - a, held to -255..255.
-- Assumes nothing.
use Rattle.std.specs.Prelude.{◌≡◌, ◌≤◌, Bool, false, if◌then◌else◌, ℤ, pos, ◌+ℤ◌, ◌-ℤ◌, neg_ℤ, Result, MatchResult, nat_le, unsigned_abs}
use Rattle.std.proofs.Common.{arith}
use Rattle.std.proofs.lemmas.Int.{ints, clamps}
use Rattle.tones.specs.Kind.{Kind, nearest, lowered_within}
use Rattle.tones.specs.Refusals.{refusal_number}
use Rattle.tones.specs.declared.reliefs.Relief.{Relief}
use Rattle.tones.specs.declared.refusals.ToneRefusal.{ToneRefusal}

pub height_within : (z : ℤ) → unsigned_abs (nearest (neg_ℤ (pos 255)) (pos 255) z) ≤ 255
height_within z = omega (arith, ints, clamps)

-- the relief of a whole number held to -255..255
abbrev pub relief : ℤ → Relief
relief z = record { height = nearest (neg_ℤ (pos 255)) (pos 255) z; within = height_within z }

-- the whole number that a relief stands for
abbrev pub relief_value : Relief → ℤ
relief_value t = t.height

-- the difference, held to -255..255
abbrev pub relief_less : Relief → ℤ → Relief
relief_less t a = relief (relief_value t -ℤ a)

-- whether a height is within -255..255
abbrev pub is_height : ℤ → Bool
is_height z = nat_le (unsigned_abs z) 255

abbrev pub reliefs : Kind Relief ℤ
reliefs = record {
  count = 511;
  span = 255;
  code = λ t. unsigned_abs (t.height +ℤ pos 255);
  tone = λ c. relief (pos c -ℤ pos 255);
  lowered = lowered_within 255 relief_less;
  row = λ t. t.height;
  counted = λ z. (if is_height z then relief z else relief (pos 255));
}

-- making a relief: a height within -255..255 gives the relief of that height, any other is refused
-- with 1
abbrev pub Making : ℤ → Result Relief ToneRefusal → Type 0
Making z r =
    MatchResult r (λ t. t.height ≡ z) (λ e. (refusal_number e ≡ 1) × (is_height z ≡ false))
