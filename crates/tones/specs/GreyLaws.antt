-- The laws of greys.
use Rattle.std.specs.Prelude.{◌≡◌, ℕ, ◌<◌, ◌≤◌, ℤ, pos, ◌-ℤ◌, unsigned_abs}
use Rattle.std.proofs.Common.{◌∙◌, ⊎_elim, ap, arith}
use denote.Struct.Record.{values_one}
use Rattle.std.proofs.lemmas.Bool.{cases_lt}
use Rattle.std.proofs.lemmas.Int.{ints, clamps}
use Rattle.tones.specs.Kind.{KeepsOrder, Laws, nearest}
use Rattle.tones.specs.Whole.{WholeNumbers}
use Rattle.tones.specs.Greys.{grey_less, grey_value, greys}
use Rattle.tones.specs.Spans.{lowered_in, lowered_out, lowered_keeps}
use Rattle.tones.specs.declared.greys.Grey.{Grey}
use Rattle.tones.specs.contracts.greys.Grey.{struct, the_propositions}

-- a grey is its level
pub same_grey : (t u : Grey) → greys.row t ≡ greys.row u → t ≡ u
same_grey t u e = values_one struct the_propositions t u (ap (λ n. (n, tt)) e)

level_back : (t : Grey) → greys.tone t.level ≡ t
level_back t = same_grey (greys.tone t.level) t (omega (arith, ints, clamps, t.within))

less_keeps : KeepsOrder greys.code grey_less
less_keeps t u a h = omega (arith, ints, clamps)

-- a byte is the row of a grey, and a row above it counts as the top tone
byte_back : (n : ℕ) → n < 256 → greys.row (greys.counted n) ≡ n
byte_back n h = omega (arith, ints, clamps)

above_top : (n : ℕ) → 256 ≤ n → greys.counted n ≡ greys.tone 255
above_top n h = same_grey (greys.counted n) (greys.tone 255) (omega (arith, ints, clamps))

no_row : (n : ℕ) → ((t : Grey) → greys.row t ≡ n → ⊥) → greys.counted n ≡ greys.tone 255
no_row n none =
    let counted : n < 256 → greys.counted n ≡ greys.tone 255 =
    λ h. absurd (none (greys.counted n) (byte_back n h)) in
    ⊎_elim counted (above_top n) (cases_lt n 256)

pub grey_laws : Laws greys
grey_laws = record {
  some = omega arith;
  count_fits = omega arith;
  span_fits = omega arith;
  within = λ t. t.within;
  back = level_back;
  there = λ c h. omega (arith, ints, clamps);
  top = λ c h. same_grey (greys.tone c) (greys.tone 255) (omega (arith, ints, clamps));
  still = λ t. same_grey (grey_less t (pos 0)) t (omega (arith, ints, clamps, t.within));
  beyond = lowered_out 255 grey_less;
  keeps = lowered_keeps 255 grey_less greys.code less_keeps;
  laid = level_back;
  outside = no_row;
}

-- what is held to 0..255 is at least 0
nearest_abs :
    (z : ℤ) → pos (unsigned_abs (nearest (pos 0) (pos 255) z)) ≡ nearest (pos 0) (pos 255) z
nearest_abs z = omega (arith, ints, clamps)

pub grey_whole : WholeNumbers greys (pos 0) (pos 255) grey_value
grey_whole = record {
  limits = λ t. (omega (arith, ints), omega (arith, ints, t.within));
  order = λ t u. (λ h. omega (arith, ints), λ h. omega (arith, ints));
  lowering = λ t a h.
      ap grey_value (lowered_in 255 grey_less t a h) ∙ nearest_abs (pos t.level -ℤ a);
}
