-- The laws of reliefs.
use Rattle.std.specs.Prelude.{◌≡◌, ◌≤◌, true, ℤ, pos, neg_ℤ, ◌≤ℤ◌}
use Rattle.std.proofs.Common.{ap, arith}
use denote.Struct.Record.{values_one}
use Rattle.std.proofs.lemmas.Int.{ints, clamps}
use Rattle.std.proofs.lemmas.Bool.Decides.{nat_tests}
use Rattle.tones.specs.Kind.{KeepsOrder, Laws}
use Rattle.tones.specs.Whole.{WholeNumbers}
use Rattle.tones.specs.Reliefs.{is_height, relief, relief_less, relief_value, reliefs}
use Rattle.tones.specs.Spans.{nearest_keeps, outside_top, lowered_in, lowered_out, lowered_keeps}
use Rattle.tones.specs.declared.reliefs.Relief.{Relief}
use Rattle.tones.specs.contracts.reliefs.Relief.{struct, the_propositions}

-- a relief is its height
pub same_relief : (t u : Relief) → reliefs.row t ≡ reliefs.row u → t ≡ u
same_relief t u e = values_one struct the_propositions t u (ap (λ n. (n, tt)) e)

-- codes are ordered as heights are
code_up : (t u : Relief) → reliefs.code t ≤ reliefs.code u → t.height ≤ℤ u.height
code_up t u h = omega (arith, ints, t.within, u.within)

code_down : (t u : Relief) → t.height ≤ℤ u.height → reliefs.code t ≤ reliefs.code u
code_down t u h = omega (arith, ints, t.within, u.within)

less_keeps : KeepsOrder reliefs.code relief_less
less_keeps t u a h =
    let up : t.height ≤ℤ u.height = code_up t u h in
    code_down (relief_less t a) (relief_less u a)
    (nearest_keeps (neg_ℤ (pos 255)) (pos 255) t.height u.height a up)

-- a height within -255..255 is the row of the relief of that height
pub height_back : (z : ℤ) → is_height z ≡ true → reliefs.row (relief z) ≡ z
height_back z e = grind (arith, ints, clamps, nat_tests)

pub relief_laws : Laws reliefs
relief_laws = record {
  some = omega arith;
  count_fits = omega arith;
  span_fits = omega arith;
  within = λ t. omega (arith, ints, t.within);
  back = λ t. same_relief (reliefs.tone (reliefs.code t)) t (omega (arith, ints, clamps, t.within));
  there = λ c h. omega (arith, ints, clamps);
  top = λ c h. same_relief (reliefs.tone c) (reliefs.tone 510) (omega (arith, ints, clamps));
  still = λ t. same_relief (relief_less t (pos 0)) t (omega (arith, ints, clamps, t.within));
  beyond = lowered_out 255 relief_less;
  keeps = lowered_keeps 255 relief_less reliefs.code less_keeps;
  laid = λ t. same_relief (reliefs.counted t.height) t (grind (arith, ints, nat_tests, t.within));
  outside = outside_top reliefs.row is_height relief (relief (pos 255)) height_back;
}

pub relief_whole : WholeNumbers reliefs (neg_ℤ (pos 255)) (pos 255) relief_value
relief_whole = record {
  limits = λ t. (omega (arith, ints, t.within), omega (arith, ints, t.within));
  order = λ t u. (code_up t u, code_down t u);
  lowering = λ t a h. ap relief_value (lowered_in 255 relief_less t a h);
}
