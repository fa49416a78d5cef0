-- Which places and order make an element. Assumes nothing.
use Rattle.std.specs.Prelude.{ℕ, ◌*◌, Bool, true, not, ◌&&◌, ◌||◌, List, [], ◌∷◌, length, pos, count_by, ◌==◌, nat_le, nat_lt}
use Rattle.recipes.specs.declared.places.Place.{Place}
use Rattle.std.specs.List.{list_any, list_all}
use Rattle.recipes.specs.Places.{taken, stands_at, limited, core, soft}

-- no two places stand at the same offsets
unfoldable pub apart : List Place → Bool
apart [] = true
apart (p ∷ ps) = not (taken p.dx p.dy ps) && apart ps

-- an order index is 1, or it is above 1, twice it is at most the number of places, and it is at most
-- the number of soft places
abbrev pub lawful_order : List Place → ℕ → Bool
lawful_order ps k =
    k == 1 || (nat_lt 1 k && nat_le (2 * k) (length ps) && nat_le k (count_by soft ps))

-- a place at the origin, in the core
abbrev pub central : Place → Bool
central p = stands_at (pos 0) (pos 0) p && core p

-- the origin is in the core, each place is in its limits, none stands twice, and the order is
-- lawful
unfoldable pub lawful : List Place → ℕ → Bool
lawful ps k =
    list_any central ps && list_all limited ps && apart ps && lawful_order ps k
