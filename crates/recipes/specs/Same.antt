-- When two recipes are the same, however their elements came about. Assumes nothing.
use Rattle.std.specs.Prelude.{◌≡◌, List, [], ◌∷◌, IsPermutation}
use Rattle.recipes.specs.declared.element.Element.{Element}
use Rattle.recipes.specs.declared.recipe.Stage.{Stage}
use Rattle.recipes.specs.Placed.{placed, order_of}

-- the same set of places with their parts and amounts, in whatever order they were added, and the
-- same order index
pub record SameElement (e f : Element) : Type 0 where
  pub places : IsPermutation (placed e) (placed f)
  pub order : order_of e ≡ order_of f

-- the same operation with the same element
pub record SameStage (s t : Stage) : Type 0 where
  pub operation : s.operation ≡ t.operation
  pub element : SameElement s.element t.element

-- stage by stage the same
abbrev pub SameRecipe : List Stage → List Stage → Type 0
SameRecipe [] [] = Unit {0}
SameRecipe (s ∷ ss) (t ∷ ts) = SameStage s t × SameRecipe ss ts
SameRecipe [] (t ∷ ts) = ⊥
SameRecipe (s ∷ ss) [] = ⊥
