-- A bag: what each code weighs, as a function from codes to natural numbers. Assumes nothing.
use Rattle.std.specs.Prelude.{ℕ, zero, suc, ◌+◌, ◌≤◌, if◌then◌else◌, ◌==◌}

-- what the codes below n weigh together
unfoldable pub below : (ℕ → ℕ) → ℕ → ℕ
below w zero = 0
below w (suc n) = below w n + w n

-- how many codes below n have weight
unfoldable pub held : (ℕ → ℕ) → ℕ → ℕ
held w zero = 0
held w (suc n) = held w n + (if w n == 0 then 0 else 1)

-- c is the least code such that the codes up to c weigh at least r together
abbrev pub Ranked : (ℕ → ℕ) → ℕ → ℕ → Type 0
Ranked w r c = (r ≤ below w (suc c)) × ((d : ℕ) → r ≤ below w (suc d) → c ≤ d)

-- the bag with a more on the code c
abbrev pub added : (ℕ → ℕ) → ℕ → ℕ → ℕ → ℕ
added w c a d = if c == d then w d + a else w d
