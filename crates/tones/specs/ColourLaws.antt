-- The laws of colours.
use Rattle.std.specs.Prelude.{◌≡◌, true, min, pos, refl}
use Rattle.std.proofs.Common.{◌∙◌, ap, arith}
use denote.Struct.Record.{values_one}
use Rattle.std.proofs.lemmas.Bool.Decides.{nat_tests}
use Rattle.tones.specs.Codes.{whole_by_codes}
use Rattle.tones.specs.Kind.{Laws}
use Rattle.tones.specs.Spans.{outside_top}
use Rattle.tones.specs.Whole.{WholeNumbers}
use Rattle.tones.specs.Colours.{colour, colour_value, colours, is_colour_row, parts, top}
use Rattle.tones.specs.declared.colours.Colour.{Colour}
use Rattle.tones.specs.declared.colours.ColourRow.{ColourRow}
use Rattle.tones.specs.contracts.colours.Colour.{struct, the_propositions}

-- a colour is its parts
pub same_colour : (t u : Colour) → colours.row t ≡ colours.row u → t ≡ u
same_colour t u e =
    values_one struct the_propositions t u
    (ap (λ r. (r.hue, (r.saturation, (r.brightness, tt)))) e)

-- the colour of a row's parts
abbrev read : ColourRow → Colour
read r = colour r.hue r.saturation r.brightness

-- parts within the limits are those of the colour read from them
read_back : (r : ColourRow) → is_colour_row r ≡ true → colours.row (read r) ≡ r
read_back r e =
    let h : min r.hue 359 ≡ r.hue = grind (arith, nat_tests) in
    let s : min r.saturation 255 ≡ r.saturation = grind (arith, nat_tests) in
    let v : min r.brightness 255 ≡ r.brightness = grind (arith, nat_tests) in
    ap (λ n. parts n (min r.saturation 255) (min r.brightness 255)) h
    ∙ ap (λ n. parts r.hue n (min r.brightness 255)) s
    ∙ ap (parts r.hue r.saturation) v

pub colour_laws : Laws colours
colour_laws = record {
  some = omega arith;
  count_fits = omega arith;
  span_fits = omega arith;
  within = λ t. omega (arith, t.within);
  back = λ t. same_colour (colours.tone (colours.code t)) t (grind (arith, nat_tests, t.within));
  there = λ c h. grind (arith, nat_tests);
  top = λ c h. same_colour (colours.tone c) (colours.tone 23592959) (grind (arith, nat_tests));
  still = λ t. refl;
  beyond = λ t a h. refl;
  keeps = λ t u a h. h;
  laid = λ t. same_colour (colours.counted (colours.row t)) t (grind (arith, nat_tests, t.within));
  outside = outside_top colours.row is_colour_row read top read_back;
}

pub colour_whole : WholeNumbers colours (pos 0) (pos 23592959) colour_value
colour_whole = whole_by_codes colours colour_laws refl
