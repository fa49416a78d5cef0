-- How far an element reads from a pixel. Assumes nothing.
use Rattle.std.specs.Prelude.{ℕ, ◌+◌, ◌≤◌}
use Rattle.recipes.specs.declared.element.Element.{Element}
use Rattle.recipes.specs.Placed.{placed}
use Rattle.recipes.specs.Reaches.{reach}

-- how far across: the greatest |dx| of its places
abbrev pub across : Element → ℕ
across e = reach (λ p. p.dx) (placed e)

-- how far down, and up: the greatest |dy|
abbrev pub down : Element → ℕ
down e = reach (λ p. p.dy) (placed e)

-- two numbers differ by n at most
pub record Within (n a b : ℕ) : Type 0 where
  pub below : a ≤ b + n
  pub above : b ≤ a + n
