-- With which number each change of an element is refused. Assumes nothing.
use Rattle.std.specs.Prelude.{ℕ, if◌then◌else◌, List, ℤ, Some, None, Option}
use Rattle.recipes.specs.declared.places.Place.{Place}
use Rattle.recipes.specs.Places.{taken, in_limits}
use Rattle.recipes.specs.Lawful.{lawful_order}

-- a new place is refused outside the limits (6), then where a place stands there already (7)
abbrev pub place_refusal : List Place → ℤ → ℤ → ℤ → Option ℕ
place_refusal ps dx dy amount =
    if in_limits dx dy amount then (if taken dx dy ps then Some 7 else None) else Some 6

-- an amount is refused outside the limits (6), then where no place stands there (8)
abbrev pub amount_refusal : List Place → ℤ → ℤ → ℤ → Option ℕ
amount_refusal ps dx dy amount =
    if in_limits dx dy amount then (if taken dx dy ps then None else Some 8) else Some 6

-- an order index is refused unless it is lawful for the places (10)
abbrev pub order_refusal : List Place → ℕ → Option ℕ
order_refusal ps k = if lawful_order ps k then None else Some 10
