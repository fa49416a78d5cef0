-- The kind of colours: ranked by brightness, then falling saturation, then hue; no amount lowers
-- one. Assumes nothing.
use Rattle.std.specs.Prelude.{◌≡◌, ℕ, ◌+◌, ◌-◌, ◌*◌, ◌/◌, ◌%◌, ◌<◌, min, Bool, false, if◌then◌else◌, ◌&&◌, ◌⊎◌, ◌↔◌, ℤ, pos, Result, MatchResult, nat_lt}
use Rattle.std.proofs.Common.{arith}
use Rattle.tones.specs.Kind.{Kind}
use Rattle.tones.specs.Refusals.{refusal_number}
use Rattle.tones.specs.declared.colours.Colour.{Colour}
use Rattle.tones.specs.declared.colours.ColourRow.{ColourRow}
use Rattle.tones.specs.declared.refusals.ToneRefusal.{ToneRefusal}

pub parts_within : (h s v : ℕ) → (min h 359 < 360) × (min s 255 < 256) × (min v 255 < 256)
parts_within h s v = (omega arith, omega arith, omega arith)

-- the colour of three parts, each held to its limit
abbrev pub colour : ℕ → ℕ → ℕ → Colour
colour h s v = record {
  hue = min h 359;
  saturation = min s 255;
  brightness = min v 255;
  within = parts_within h s v;
}

-- the top tone
abbrev pub top : Colour
top = colour 359 0 255

abbrev pub code : Colour → ℕ
code t = (t.brightness * 256 + 255 - t.saturation) * 360 + t.hue

-- the whole number that a colour stands for: its code
abbrev pub colour_value : Colour → ℤ
colour_value t = pos (code t)

-- the parts of a colour as a row
abbrev pub parts : ℕ → ℕ → ℕ → ColourRow
parts h s v = record { hue = h; saturation = s; brightness = v }

-- whether a row's parts are within a colour's limits
abbrev pub is_colour_row : ColourRow → Bool
is_colour_row r = nat_lt r.hue 360 && (nat_lt r.saturation 256 && nat_lt r.brightness 256)

abbrev pub colours : Kind Colour ColourRow
colours = record {
  count = 23592960;
  span = 0;
  code = code;
  tone = λ c. (if nat_lt c 23592960
      then colour (c % 360) (255 - c / 360 % 256) (c / 360 / 256) else top);
  lowered = λ t _. t;
  row = λ t. parts t.hue t.saturation t.brightness;
  counted = λ r. (if is_colour_row r then colour r.hue r.saturation r.brightness else top);
}

-- making a colour: parts within the limits give the colour of those parts, any others are refused
-- with 1
abbrev pub Making : ColourRow → Result Colour ToneRefusal → Type 0
Making p r =
    MatchResult r
    (λ t. colours.row t ≡ p)
    (λ e. (refusal_number e ≡ 1) × (is_colour_row p ≡ false))

-- darker first, then more saturated, then smaller hue
abbrev pub Darker : Colour → Colour → Type 0
Darker c d = c.brightness < d.brightness

abbrev pub MoreSaturated : Colour → Colour → Type 0
MoreSaturated c d = (c.brightness ≡ d.brightness) × (d.saturation < c.saturation)

abbrev pub SmallerHue : Colour → Colour → Type 0
SmallerHue c d = (c.brightness ≡ d.brightness) × (c.saturation ≡ d.saturation) × (c.hue < d.hue)

abbrev pub Before : Colour → Colour → Type 0
Before c d = Darker c d ⊎ (MoreSaturated c d ⊎ SmallerHue c d)

-- the codes rank the colours so
abbrev pub RankedByParts : Type 0
RankedByParts = (c d : Colour) → (code c < code d) ↔ Before c d
