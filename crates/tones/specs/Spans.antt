-- Lowering within a span, holding to a range, and rows outside the limits, for any kind.
use Rattle.std.specs.Prelude.{◌≡◌, ℕ, ◌<◌, ◌≤◌, Bool, true, false, cond, ℤ, ◌-ℤ◌, ◌≤ℤ◌, nat_le, unsigned_abs}
use Rattle.std.proofs.Common.{arith}
use Rattle.std.proofs.lemmas.Int.{ints, clamps}
use Rattle.std.proofs.lemmas.Bool.{le-leb, lt-leb, cond-true, cond-false, false_from_ne_true}
use Rattle.tones.specs.Kind.{KeepsOrder, nearest, lowered_within}

-- of two whole numbers less the same amount, held to a range, none passes the other
pub nearest_keeps :
    (low high x y a : ℤ) → x ≤ℤ y → nearest low high (x -ℤ a) ≤ℤ nearest low high (y -ℤ a)
nearest_keeps low high x y a h = omega (arith, ints, clamps)

module _ {T : Type 0} (span : ℕ) (less : T → ℤ → T) where
  -- an amount within the span lowers as said
  pub lowered_in : (t : T) (a : ℤ) → unsigned_abs a ≤ span → lowered_within span less t a ≡ less t a
  lowered_in t a h =
      cond-true (nat_le (unsigned_abs a) span) (less t a) t (le-leb (unsigned_abs a) span h)

  -- any other lowers nothing
  pub lowered_out : (t : T) (a : ℤ) → span < unsigned_abs a → lowered_within span less t a ≡ t
  lowered_out t a h =
      cond-false (nat_le (unsigned_abs a) span) (less t a) t (lt-leb (unsigned_abs a) span h)

  -- two tones lowered alike keep their places, if they do within the span
  pub lowered_keeps :
      (code : T → ℕ) → KeepsOrder code less → KeepsOrder code (lowered_within span less)
  lowered_keeps code keeps t u a h = go (nat_le (unsigned_abs a) span)
    where
      go : (b : Bool) → code (cond b (less t a) t) ≤ code (cond b (less u a) u)
      go true = keeps t u a h
      go false = h

module _ {T Row : Type 0} (row : T → Row) (is_row : Row → Bool) (read : Row → T) (top : T) where
  -- a row that is no tone's counts as the top tone, if a row within the limits is that of the tone
  -- read from it
  pub outside_top :
      ((r : Row) → is_row r ≡ true → row (read r) ≡ r)
      → (r : Row) → ((t : T) → row t ≡ r → ⊥) → cond (is_row r) (read r) top ≡ top
  outside_top back r none =
      let out : is_row r ≡ false = false_from_ne_true (is_row r) (λ e. none (read r) (back r e)) in
      cond-false (is_row r) (read r) top out
