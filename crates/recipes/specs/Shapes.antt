-- The standard shapes. Assumes nothing.
use Rattle.std.specs.Prelude.{◌≡◌, ℕ, ◌+◌, Bool, true, not, if◌then◌else◌, ◌&&◌, List, [], ◌∷◌, map, ℤ, pos, negsuc, Some, None, filter, MatchResult, Option, Result, ◌==◌, nat_le, unsigned_abs}
use Rattle.std.specs.List.{flat_map, ContainsAt as Has}
use Rattle.recipes.specs.declared.places.Part.{Part}
use Rattle.recipes.specs.declared.places.Part.TheVariants.{Core, Soft}
use Rattle.recipes.specs.declared.places.Place.{Place}
use Rattle.recipes.specs.declared.refusals.ElementRefusal.{ElementRefusal}
use Rattle.recipes.specs.declared.shapes.Shape.{Shape}
use Rattle.recipes.specs.declared.shapes.Shape.TheVariants.{Cross, Square3, Octagon5, Square7}
use Rattle.recipes.specs.Places.{place_of, same}
use Rattle.recipes.specs.Refusals.{element_number}

-- the shapes by their numbers
abbrev pub shape_of : ℕ → Option Shape
shape_of i =
    if i == 0 then Some Cross
    else if i == 1 then Some Square3
    else if i == 2 then Some Octagon5
    else if i == 3 then Some Square7
    else None

-- the shape of a number, or the refusal of a number that no shape has (9)
abbrev pub IsNumbered : ℕ → Result Shape ElementRefusal → Type 0
IsNumbered i r =
    MatchResult r
    (λ s. shape_of i ≡ Some s)
    (λ e. (shape_of i ≡ None) × (element_number e ≡ 9))

-- no offset is greater in size than n
abbrev pub in_square : ℕ → ℤ → ℤ → Bool
in_square n dx dy = nat_le (unsigned_abs dx) n && nat_le (unsigned_abs dy) n

-- the offsets that lie in a shape
abbrev pub in_shape : Shape → ℤ → ℤ → Bool
in_shape Cross dx dy = nat_le (unsigned_abs dx + unsigned_abs dy) 1
in_shape Square3 dx dy = in_square 1 dx dy
in_shape Octagon5 dx dy = in_square 2 dx dy && not (unsigned_abs dx == 2 && unsigned_abs dy == 2)
in_shape Square7 dx dy = in_square 3 dx dy

-- the part of a place of a standard shape
abbrev pub standard_part : ℤ → ℤ → Part
standard_part dx dy = if same dx (pos 0) && same dy (pos 0) then Core else Soft

-- a place of a standard shape: at the origin in the core, elsewhere soft, with amount 0
abbrev pub standard_place : ℤ → ℤ → Place
standard_place dx dy = place_of dx dy (standard_part dx dy) (pos 0)

-- the offsets from −3 to 3
abbrev pub offsets : List ℤ
offsets = negsuc 2 ∷ negsuc 1 ∷ negsuc 0 ∷ pos 0 ∷ pos 1 ∷ pos 2 ∷ pos 3 ∷ []

-- the places of the 7 × 7 square, row by row
unfoldable pub grid : List Place
grid = flat_map (λ dy. map (λ dx. standard_place dx dy) offsets) offsets

-- the places of a shape, row by row
unfoldable pub standard_places : Shape → List Place
standard_places s = filter (λ p. in_shape s p.dx p.dy) grid

-- what a place of a shape is: its offsets lie in the shape, it is in the core at the origin and soft
-- elsewhere, and its amount is 0
abbrev pub Belongs : Shape → Place → Type 0
Belongs s p = (in_shape s p.dx p.dy ≡ true) × (p ≡ standard_place p.dx p.dy)

-- the places are exactly those that belong to the shape
abbrev pub Members : Shape → List Place → Type 0
Members s ps = (p : Place) → (Has ps p → Belongs s p) × (Belongs s p → Has ps p)

-- a number that no shape has is refused (9)
abbrev pub standard_refusal : Option Shape → Option ℕ
standard_refusal None = Some 9
standard_refusal (Some s) = None

-- a shape's places stand for those before it, which stay where the number is refused
abbrev pub standard_after : Option Shape → List Place → List Place
standard_after None ps = ps
standard_after (Some s) ps = standard_places s
