-- The places of a standard shape, met one after another.
use Rattle.std.proofs.Common.{◌≡◌, ℕ, ◌/◌, ◌%◌, ◌≤◌, true, map, length, pos, ◌-ℤ◌, filter, refl, arith}
use Rattle.std.specs.List.{range_with_len}
use Rattle.recipes.specs.declared.places.Place.{Place}
use Rattle.recipes.specs.declared.shapes.Shape.{Shape}
use Rattle.recipes.specs.declared.shapes.Shape.TheVariants.{Cross, Square3, Octagon5, Square7}
use Rattle.recipes.specs.Lawful.{lawful, apart}
use Rattle.recipes.specs.Shapes.{in_shape, standard_place, standard_places, grid}

-- the place of cell n
abbrev pub cell_place : ℕ → Place
cell_place n = standard_place (pos (n % 7) -ℤ pos 3) (pos (n / 7) -ℤ pos 3)

grid_counted : grid ≡ map cell_place (range_with_len 0 49)
unfolding grid
grid_counted = refl

pub shape_counted : (s : Shape) → filter (λ p. in_shape s p.dx p.dy) (map cell_place (range_with_len 0 49)) ≡ standard_places s
unfolding standard_places
shape_counted s = rw grid_counted

pub shape_few : (s : Shape) → length (standard_places s) ≤ 49
unfolding standard_places grid
shape_few Cross = omega arith
shape_few Square3 = omega arith
shape_few Octagon5 = omega arith
shape_few Square7 = omega arith

-- each shape makes an element of order 1
pub shape_lawful : (s : Shape) → lawful (standard_places s) 1 ≡ true
unfolding lawful standard_places grid apart
shape_lawful Cross = refl
shape_lawful Square3 = refl
shape_lawful Octagon5 = refl
shape_lawful Square7 = refl
