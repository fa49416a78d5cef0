-- What it is for the tones of a kind to be whole numbers. Assumes nothing.
use Rattle.std.specs.Prelude.{◌≡◌, ◌≤◌, ◌↔◌, ℤ, ◌-ℤ◌, ◌≤ℤ◌, unsigned_abs}
use Rattle.tones.specs.Kind.{Kind, nearest}

-- the tones of k stand for the whole numbers low..high
pub record WholeNumbers
    {T Row : Type 0} (k : Kind T Row) (low high : ℤ) (value : T → ℤ) : Type 0 where
  pub limits : (t : T) → (low ≤ℤ value t) × (value t ≤ℤ high)
  -- their order is that of the numbers
  pub order : (t u : T) → (k.code t ≤ k.code u) ↔ (value t ≤ℤ value u)
  -- lowering within the span is the difference of whole numbers, held to the range
  pub lowering :
      (t : T) (a : ℤ)
      → unsigned_abs a ≤ k.span
      → value (k.lowered t a) ≡ nearest low high (value t -ℤ a)
