use Rattle.std.proofs.Common.{◌≡◌, length, take}
use Rattle.recipes.proofs.shapes.Shape.element.Given as goal

-- the places so far are stored
abbrev pub invariant-loop-place : goal.invariant-loop-place
invariant-loop-place l =
    (goal.iterator-loop-place).can_next l.place-iterator × (goal.iterator-loop-place).is_finite l.place-iterator
    × (length l.places ≡ 49) × (l.count ≡ length l.yielded) × (take l.count l.places ≡ l.yielded)
