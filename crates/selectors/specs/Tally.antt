-- What a selector keeps beside its bag: how many codes have weight, and what they weigh together,
-- both within their limits. Assumes nothing.
use Rattle.std.specs.Prelude.{◌≡◌, ℕ, ◌≤◌}
use Rattle.selectors.specs.declared.limits.TheConstants.{MOST_CODES, MOST_WEIGHT}
use Rattle.selectors.specs.Bag.{below, held}

abbrev pub Tally : (ℕ → ℕ) → ℕ → ℕ → ℕ → Type 0
Tally w R count sum =
    (sum ≡ below w R) × (sum ≤ MOST_WEIGHT) × (count ≡ held w R) × (count ≤ MOST_CODES)
