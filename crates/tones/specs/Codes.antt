-- Where no amount lowers a tone, the tones stand for whole numbers by their codes.
use Rattle.std.specs.Prelude.{◌≡◌, ◌-◌, ◌≤◌, ℤ, pos, ◌-ℤ◌, unsigned_abs}
use Rattle.std.proofs.Common.{◌∙◌, ap, arith}
use Rattle.std.proofs.lemmas.Int.{ints, clamps}
use Rattle.tones.specs.Kind.{Kind, Laws, nearest}
use Rattle.tones.specs.Whole.{WholeNumbers}

module _ {T Row : Type 0} (k : Kind T Row) (law : Laws k) (flat : k.span ≡ 0) where
  -- the code of a tone as a whole number
  abbrev value : T → ℤ
  value t = pos (k.code t)

  -- a whole number less an amount, held to the codes
  abbrev less : ℤ → ℤ → ℤ
  less z a = nearest (pos 0) (pos (k.count - 1)) (z -ℤ a)

  -- the only amount within the span is 0
  no_amount : (a : ℤ) → unsigned_abs a ≤ k.span → a ≡ pos 0
  no_amount a h = omega (arith, ints)

  value_within : (t : T) → value t ≡ less (value t) (pos 0)
  value_within t = omega (arith, ints, clamps, law.within t)

  lowered_none : (t : T) → value (k.lowered t (pos 0)) ≡ less (value t) (pos 0)
  lowered_none t = ap value (law.still t) ∙ value_within t

  pub whole_by_codes : WholeNumbers k (pos 0) (pos (k.count - 1)) (λ t. pos (k.code t))
  whole_by_codes = record {
    limits = λ t. (omega (arith, ints), omega (arith, ints, law.within t));
    order = λ t u. (λ h. omega (arith, ints), λ h. omega (arith, ints));
    lowering = λ t a h. rw (no_amount a h) (lowered_none t);
  }
