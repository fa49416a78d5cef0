-- How far places reach from the origin. Assumes nothing.
use Rattle.std.specs.Prelude.{◌≡◌, ℕ, ◌≤◌, max, List, [], ◌∷◌, ℤ, unsigned_abs}
use Rattle.std.specs.List.{ContainsAt as Has, AllByRecursion}
use Rattle.recipes.specs.declared.places.Place.{Place}

-- the greatest size of an offset
unfoldable pub reach : (Place → ℤ) → List Place → ℕ
reach d [] = 0
reach d (p ∷ ps) = max (unsigned_abs (d p)) (reach d ps)

-- no place's offset is greater in size than n, and one is as great
pub record IsGreatest (d : Place → ℤ) (ps : List Place) (n : ℕ) : Type 0 where
  pub bound : AllByRecursion (λ p. unsigned_abs (d p) ≤ n) ps
  pub met : (p : Place) × Has ps p × (unsigned_abs (d p) ≡ n)
