-- What a tone kind is: its tones counted from 0, lowered by whole amounts, and laid in rows.
-- Assumes nothing.
use Rattle.std.specs.Prelude.{◌≡◌, ℕ, ◌-◌, ◌^◌, ◌<◌, ◌≤◌, if◌then◌else◌, ℤ, pos, nat_le, unsigned_abs}
use Rattle.std.specs.Int.{int_max, int_min}

pub record Kind (T Row : Type 0) : Type 0 where
  -- how many tones there are
  pub count : ℕ
  -- the largest amount that lowers or raises
  pub span : ℕ
  -- a tone is below another when its code is smaller
  pub code : T → ℕ
  -- the tone of a code
  pub tone : ℕ → T
  -- a tone lowered by a whole amount; raising by a is lowering by -a
  pub lowered : T → ℤ → T
  -- a tone as it lies in memory
  pub row : T → Row
  -- the tone that a row counts as
  pub counted : Row → T

-- two tones lowered alike never change places
abbrev pub KeepsOrder : {T : Type 0} → (T → ℕ) → (T → ℤ → T) → Type 0
KeepsOrder {T} code less = (t u : T) (a : ℤ) → code t ≤ code u → code (less t a) ≤ code (less u a)

pub record Laws {T Row : Type 0} (k : Kind T Row) : Type 0 where
  -- there is a tone, and codes and amounts fit 32 bits
  pub some : 0 < k.count
  pub count_fits : k.count < 2 ^ 32
  pub span_fits : k.span < 2 ^ 31
  -- code and tone are inverse to one another, and none is left out
  pub within : (t : T) → k.code t < k.count
  pub back : (t : T) → k.tone (k.code t) ≡ t
  pub there : (c : ℕ) → c < k.count → k.code (k.tone c) ≡ c
  -- a code of the count or more gives the top tone
  pub top : (c : ℕ) → k.count ≤ c → k.tone c ≡ k.tone (k.count - 1)
  -- lowering by 0 gives the same tone
  pub still : (t : T) → k.lowered t (pos 0) ≡ t
  -- an amount outside the span lowers nothing
  pub beyond : (t : T) (a : ℤ) → k.span < unsigned_abs a → k.lowered t a ≡ t
  -- two tones lowered alike never change places
  pub keeps : KeepsOrder k.code k.lowered
  -- the row of a tone counts as that tone
  pub laid : (t : T) → k.counted (k.row t) ≡ t
  -- a row that is no tone's counts as the top tone
  pub outside : (r : Row) → ((t : T) → k.row t ≡ r → ⊥) → k.counted r ≡ k.tone (k.count - 1)

-- of the whole numbers low..high the one nearest to z: z held to the range
abbrev pub nearest : ℤ → ℤ → ℤ → ℤ
nearest low high z = int_max low (int_min z high)

-- lowered as `less` says by an amount within -span..span, and not at all by any other
abbrev pub lowered_within : {T : Type 0} → ℕ → (T → ℤ → T) → T → ℤ → T
lowered_within span less t a = if nat_le (unsigned_abs a) span then less t a else t
