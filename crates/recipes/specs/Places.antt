-- What the places of a structuring element are. Assumes nothing.
use Rattle.std.specs.Prelude.{◌≤◌, Bool, true, false, ◌&&◌, if◌then◌else◌, List, ℤ, pos, negsuc, ◌==◌, nat_le, unsigned_abs}
use Rattle.std.specs.List.{list_any}
use Rattle.recipes.specs.declared.places.Part.{Part}
use Rattle.recipes.specs.declared.places.Part.TheVariants.{Core, Soft}
use Rattle.recipes.specs.declared.places.Place.{Place}
use Rattle.recipes.specs.declared.places.TheConstants.{FARTHEST, MOST_AMOUNT}

-- the same whole number
abbrev pub same : ℤ → ℤ → Bool
same (pos a) (pos b) = a == b
same (pos a) (negsuc b) = false
same (negsuc a) (pos b) = false
same (negsuc a) (negsuc b) = a == b

-- the place of its offsets, its part and its amount
abbrev pub place_of : ℤ → ℤ → Part → ℤ → Place
place_of dx dy part amount = record { dx = dx; dy = dy; part = part; amount = amount }

-- the place at the origin, in the core, with amount 0
abbrev pub origin : Place
origin = place_of (pos 0) (pos 0) Core (pos 0)

-- a place stands at the offsets dx and dy
abbrev pub stands_at : ℤ → ℤ → Place → Bool
stands_at dx dy p = same p.dx dx && same p.dy dy

-- one of the places stands there
abbrev pub taken : ℤ → ℤ → List Place → Bool
taken dx dy ps = list_any (stands_at dx dy) ps

-- offsets are from −3 to 3, amounts from −1,024 to 1,024
abbrev pub in_limits : ℤ → ℤ → ℤ → Bool
in_limits dx dy amount =
    nat_le (unsigned_abs dx) FARTHEST && nat_le (unsigned_abs dy) FARTHEST
    && nat_le (unsigned_abs amount) MOST_AMOUNT

-- a place is in its limits
abbrev pub limited : Place → Bool
limited p = in_limits p.dx p.dy p.amount

-- the same, as orders
pub record IsLimited (p : Place) : Type 0 where
  pub across : unsigned_abs p.dx ≤ FARTHEST
  pub down : unsigned_abs p.dy ≤ FARTHEST
  pub deep : unsigned_abs p.amount ≤ MOST_AMOUNT

-- a place belongs to the core
abbrev pub core : Place → Bool
core p = elim p.part [ Core ↦ true | Soft ↦ false ]

-- a place belongs to the soft boundary
abbrev pub soft : Place → Bool
soft p = elim p.part [ Core ↦ false | Soft ↦ true ]

-- a place with another amount if it stands at the offsets, any other as it was
abbrev pub amended : ℤ → ℤ → ℤ → Place → Place
amended dx dy amount p = if stands_at dx dy p then place_of p.dx p.dy p.part amount else p
