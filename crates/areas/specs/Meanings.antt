-- What the changes of the areas mean, pixel by pixel. Assumes nothing.
use Rattle.std.specs.Prelude.{◌≡◌, ℕ, ◌-◌, ◌<◌, ◌≤◌, Bool, true, false, ◌||◌, ◌⊎◌, List, [], ◌∷◌, Some, None, Option, slice_index_or}
use Rattle.planes.specs.declared.size.Size.{Size}
use Rattle.recipes.specs.declared.recipe.Stage.{Stage}
use Rattle.areas.specs.Rects.{InReach, Smallest}
use Rattle.areas.specs.Areas.{Area, Stale}

-- a stage's new area is the smallest rectangle that holds its old area and the card's pixels within
-- its reach of those that are stale below
abbrev pub Becomes : Size → Stage → (ℕ → ℕ → Type 0) → Area → Area → Type 0
Becomes size s below old None = ⊥
Becomes size s below old (Some r) = Smallest r (λ x y. InReach size s below x y ⊎ Stale old x y)

-- stage by stage, where what is stale below the first stage are the pixels that were written; an
-- area without a stage stays
unfoldable pub Spreads : Size → List Stage → (ℕ → ℕ → Type 0) → List Area → List Area → Type 0
Spreads size [] below old new = new ≡ old
Spreads size (s ∷ ss) below [] new = new ≡ []
Spreads size (s ∷ ss) below (a ∷ old) [] = ⊥
Spreads size (s ∷ ss) below (a ∷ old) (n ∷ new) =
    Becomes size s below a n × Spreads size ss (Stale n) old new

-- a stage has an area
abbrev pub has_area : Area → Bool
has_area None = false
has_area (Some r) = true

-- some stage has one
unfoldable pub some_stale : List Area → Bool
some_stale [] = false
some_stale (a ∷ rest) = has_area a || some_stale rest

-- the area of stage j, counted from 1
abbrev pub area_of : List Area → ℕ → Area
area_of areas j = slice_index_or areas (j - 1) None

-- stage j is the lowest with an area, and y is the top row of it
pub record IsNext (areas : List Area) (j y : ℕ) : Type 0 where
  pub counted : 1 ≤ j
  pub lower : (i : ℕ) → 1 ≤ i → i < j → area_of areas i ≡ None
  pub column : ℕ
  pub row : Stale (area_of areas j) column y
  pub top : (x z : ℕ) → Stale (area_of areas j) x z → y ≤ z

-- nothing is next exactly where no stage has an area
abbrev pub NextIs : List Area → Option (ℕ × ℕ) → Type 0
NextIs areas None = some_stale areas ≡ false
NextIs areas (Some p) = IsNext areas p.0 p.1

-- the row that is next leaves its stage's area, and everything else that was stale stays so
abbrev pub Leaves : List Area → Option (ℕ × ℕ) → List Area → Type 0
Leaves old None new = new ≡ old
Leaves old (Some p) new = (i x z : ℕ) → 1 ≤ i →
    (Stale (area_of new i) x z → Stale (area_of old i) x z × ((i ≡ p.0) × (z ≡ p.1) → ⊥))
    × (Stale (area_of old i) x z → ((i ≡ p.0) × (z ≡ p.1) → ⊥) → Stale (area_of new i) x z)
