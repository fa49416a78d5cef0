-- The list of an element's places, and its order index. Assumes nothing.
use Rattle.std.specs.Prelude.{ℕ, List, take}
use Rattle.recipes.specs.declared.places.Place.{Place}
use Rattle.recipes.specs.declared.element.Element.{Element}

abbrev pub placed : Element → List Place
placed e = take e.count e.places

abbrev pub order_of : Element → ℕ
order_of e = e.order
