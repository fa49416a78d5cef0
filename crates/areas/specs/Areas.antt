-- Stale areas: a rectangle or nothing for each stage, the first stage's first. Assumes nothing.
use Rattle.std.specs.Prelude.{◌≡◌, ℕ, ◌+◌, ◌-◌, ◌<◌, ◌≤◌, max, Bool, true, if◌then◌else◌, ◌&&◌, List, [], ◌∷◌, length, map, Some, None, Option, nat_le, nat_lt}
use Rattle.std.specs.List.{slice_get}
use Rattle.std.specs.Option.{MatchOption}
use Rattle.planes.specs.declared.size.Size.{Size}
use Rattle.recipes.specs.declared.recipe.Stage.{Stage}
use Rattle.areas.specs.declared.rect.Rect.{Rect}
use Rattle.areas.specs.Rects.{Holds, fits, whole, widened, joined, lessened}

abbrev pub Area : Type 0
Area = Option Rect

-- the pixels of an area are stale
abbrev pub Stale : Area → ℕ → ℕ → Type 0
Stale None x y = ⊥
Stale (Some r) x y = Holds r x y

-- an area is nothing, or it has a pixel and lies wholly on the card
abbrev pub area_fits : Size → Area → Bool
area_fits size None = true
area_fits size (Some r) = fits size r

-- every area does
unfoldable pub areas_fit : Size → List Area → Bool
areas_fit size [] = true
areas_fit size (a ∷ rest) = area_fits size a && areas_fit size rest

-- no stage has an area
abbrev pub none_stale : List Stage → List Area
none_stale stages = map (λ s. None) stages

-- every stage's area is the whole card
abbrev pub all_stale : Size → List Stage → List Area
all_stale size stages = map (λ s. Some (whole size)) stages

-- the smallest rectangle that holds a stage's old area and what is new below, widened by the
-- stage's reach and cut to the card
abbrev pub new_area : Size → Stage → Rect → Area → Rect
new_area size s below old = joined (widened size s below) old

-- a written rectangle spreads: each stage's area becomes its new area over that of the stage below
unfoldable pub spread : Size → List Stage → Rect → List Area → List Area
spread size [] r rest = rest
spread size (s ∷ ss) r [] = []
spread size (s ∷ ss) r (a ∷ rest) =
    Some (new_area size s r a) ∷ spread size ss (new_area size s r a) rest

-- the lowest stage with an area, counted from j, and that area
unfoldable pub lowest_from : ℕ → List Area → Option (ℕ × Rect)
lowest_from j [] = None
lowest_from j (None ∷ rest) = lowest_from (j + 1) rest
lowest_from j (Some r ∷ rest) = Some (j, r)

abbrev pub lowest : List Area → Option (ℕ × Rect)
lowest areas = lowest_from 1 areas

-- none of the first n stages has an area
abbrev pub NoneBefore : List Area → ℕ → Type 0
NoneBefore areas n = (k : ℕ) → k < n → slice_get areas k ≡ Some None

-- nothing where no stage has an area, else the first stage that has one, counted from 1
abbrev pub FirstThere : List Area → Option (ℕ × Rect) → Type 0
FirstThere areas o =
    MatchOption o (NoneBefore areas (length areas)) (λ p.
    (1 ≤ p.0)
    × (slice_get areas (p.0 - 1) ≡ Some (Some p.1))
    × NoneBefore areas (p.0 - 1))

-- a stage with the top row of its area
abbrev pub top_row : Option (ℕ × Rect) → Option (ℕ × ℕ)
top_row None = None
top_row (Some p) = Some (p.0, p.1.top)

-- what is redone next: the lowest stage with an area, counted from 1, and that area's top row
abbrev pub next_of : List Area → Option (ℕ × ℕ)
next_of areas = top_row (lowest areas)

-- less the top row of the lowest stage that has an area
unfoldable pub dropped : List Area → List Area
dropped [] = []
dropped (None ∷ rest) = None ∷ dropped rest
dropped (Some r ∷ rest) = lessened r ∷ rest

-- the rows of an area
abbrev pub rows : Area → ℕ
rows None = 0
rows (Some r) = r.bottom - r.top

-- the rows of all areas together
unfoldable pub stale_rows : List Area → ℕ
stale_rows [] = 0
stale_rows (a ∷ rest) = rows a + stale_rows rest

-- the area of the last stage
unfoldable pub last_area : List Area → Area
last_area [] = None
last_area (a ∷ []) = a
last_area (a ∷ (b ∷ rest)) = last_area (b ∷ rest)

-- a piece of row y, n wide from column x on, crosses a rectangle
abbrev pub crosses : Rect → ℕ → ℕ → ℕ → Bool
crosses r x y n =
    (nat_le r.top y && nat_lt y r.bottom)
    && (nat_lt (max x r.left) r.right && nat_lt (max x r.left) (x + n))

-- the first column of the piece that an area holds
abbrev pub met : Area → ℕ → ℕ → ℕ → Option ℕ
met None x y n = None
met (Some r) x y n = if crosses r x y n then Some (max x r.left) else None

-- no pixel of the piece is stale
pub record Misses (a : Area) (x y n : ℕ) : Type 0 where
  pub none : (c : ℕ) → x ≤ c → c < x + n → Stale a c y → ⊥

-- c is the first column of the piece that is stale
pub record Meets (a : Area) (x y n c : ℕ) : Type 0 where
  pub from : x ≤ c
  pub up_to : c < x + n
  pub stale_there : Stale a c y
  pub first : (d : ℕ) → x ≤ d → d < c → Stale a d y → ⊥

-- a column is the first that is stale, and no column says that none is
abbrev pub FirstMet : Area → ℕ → ℕ → ℕ → Option ℕ → Type 0
FirstMet a x y n None = Misses a x y n
FirstMet a x y n (Some c) = Meets a x y n c
