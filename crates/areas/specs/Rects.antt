-- Rectangles of pixels on a card. Assumes nothing.
use Rattle.std.specs.Prelude.{ℕ, ◌+◌, ◌-◌, ◌<◌, ◌≤◌, min, max, Bool, if◌then◌else◌, ◌&&◌, Some, None, Option, nat_le, nat_lt}
use Rattle.planes.specs.declared.size.Size.{Size}
use Rattle.recipes.specs.declared.recipe.Stage.{Stage}
use Rattle.recipes.specs.Extents.{Within, across, down}
use Rattle.areas.specs.declared.rect.Rect.{Rect}

-- the pixel in column x and row y lies in a rectangle: right and bottom are the first column and
-- row past it
pub record Holds (r : Rect) (x y : ℕ) : Type 0 where
  pub from_left : r.left ≤ x
  pub to_right : x < r.right
  pub from_top : r.top ≤ y
  pub to_bottom : y < r.bottom

-- a rectangle has a pixel and lies wholly on the card
pub record Fits (size : Size) (r : Rect) : Type 0 where
  pub columns : r.left < r.right
  pub wide : r.right ≤ size.width
  pub rows : r.top < r.bottom
  pub high : r.bottom ≤ size.height

-- the same as a test
abbrev pub fits : Size → Rect → Bool
fits size r =
    (nat_lt r.left r.right && nat_le r.right size.width)
    && (nat_lt r.top r.bottom && nat_le r.bottom size.height)

-- the whole card
abbrev pub whole : Size → Rect
whole size = record { left = 0; top = 0; right = size.width; bottom = size.height }

-- so many columns or rows from one on, at least one, lie before the end
abbrev pub stretch_fits : ℕ → ℕ → ℕ → Bool
stretch_fits from many end = nat_lt 0 many && nat_le (from + many) end

-- the rectangle of a corner, a width and a height, if it has a pixel and lies wholly on the card
abbrev pub rect_on : Size → ℕ → ℕ → ℕ → ℕ → Option Rect
rect_on size x y width height =
    if stretch_fits x width size.width && stretch_fits y height size.height
    then Some (record { left = x; top = y; right = x + width; bottom = y + height })
    else None

-- a rectangle, widened by a stage's reach on each side and cut to the card
abbrev pub widened : Size → Stage → Rect → Rect
widened size s r = record {
  left = r.left - across s.element;
  top = r.top - down s.element;
  right = min (r.right + across s.element) size.width;
  bottom = min (r.bottom + down s.element) size.height;
}

-- the pixel lies on the card, and one that passes lies within a stage's reach of it
pub record InReach (size : Size) (s : Stage) (passes : ℕ → ℕ → Type 0) (x y : ℕ) : Type 0 where
  pub column : x < size.width
  pub row : y < size.height
  pub other_x : ℕ
  pub other_y : ℕ
  pub there : passes other_x other_y
  pub across_within : Within (across s.element) x other_x
  pub down_within : Within (down s.element) y other_y

-- a rectangle holds exactly the pixels that pass
abbrev pub Exactly : Rect → (ℕ → ℕ → Type 0) → Type 0
Exactly r passes = (x y : ℕ) → (Holds r x y → passes x y) × (passes x y → Holds r x y)

-- a rectangle holds every pixel that passes
abbrev pub HoldsAll : Rect → (ℕ → ℕ → Type 0) → Type 0
HoldsAll r passes = (x y : ℕ) → passes x y → Holds r x y

-- it does, and each rectangle that holds them all holds every pixel of it
pub record Smallest (r : Rect) (passes : ℕ → ℕ → Type 0) : Type 0 where
  pub all : HoldsAll r passes
  pub least : (q : Rect) → HoldsAll q passes → HoldsAll q (Holds r)

-- the rectangle of the outer sides of two
abbrev pub hull : Rect → Rect → Rect
hull r q = record {
  left = min r.left q.left;
  top = min r.top q.top;
  right = max r.right q.right;
  bottom = max r.bottom q.bottom;
}

-- the smallest rectangle that holds a rectangle and the old area
abbrev pub joined : Rect → Option Rect → Rect
joined r None = r
joined r (Some q) = hull r q

-- a rectangle less its top row; nothing where no row is left
abbrev pub lessened : Rect → Option Rect
lessened r =
    if nat_lt (r.top + 1) r.bottom
    then Some (record { left = r.left; top = r.top + 1; right = r.right; bottom = r.bottom })
    else None
