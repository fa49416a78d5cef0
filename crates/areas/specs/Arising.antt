-- How areas come about, and what holds of all that do. Assumes nothing.
use Rattle.std.specs.Prelude.{◌≡◌, ℕ, List, [], ◌∷◌}
use Rattle.planes.specs.declared.size.Size.{Size}
use Rattle.recipes.specs.declared.recipe.Stage.{Stage}
use Rattle.areas.specs.declared.rect.Rect.{Rect}
use Rattle.areas.specs.Rects.{Fits, InReach}
use Rattle.areas.specs.Areas.{Area, Stale, none_stale, all_stale, spread, dropped, last_area}
use Rattle.areas.specs.Meanings.{has_area, some_stale}

-- the areas of a recipe's stages come about from nothing stale or everything stale, by written
-- rectangles and dropped rows
pub data Arises (size : Size) (stages : List Stage) : List Area → Type 0 where
  nothing : Arises size stages (none_stale stages)
  everything : Arises size stages (all_stale size stages)
  written :
      (r : Rect) (areas : List Area)
      → Fits size r
      → Arises size stages areas
      → Arises size stages (spread size stages r areas)
  redone : (areas : List Area) → Arises size stages areas → Arises size stages (dropped areas)

-- each pixel of the card within a stage's reach of a pixel that is stale below is stale at that
-- stage
unfoldable pub NestedOn : Size → (ℕ → ℕ → Type 0) → List Stage → List Area → Type 0
NestedOn size below [] areas = Unit {0}
NestedOn size below (s ∷ ss) [] = Unit {0}
NestedOn size below (s ∷ ss) (a ∷ areas) =
    ((x y : ℕ) → InReach size s below x y → Stale a x y)
    × NestedOn size (Stale a) ss areas

-- below the first stage nothing is stale
abbrev pub Nested : Size → List Stage → List Area → Type 0
Nested size stages areas = NestedOn size (λ x y. ⊥) stages areas

-- areas that come about so are nested, and some stage has an area exactly when the last one has
abbrev pub Arising : Size → List Area → Type 0
Arising size areas =
    (stages : List Stage)
    → Arises size stages areas
    → Nested size stages areas × (some_stale areas ≡ has_area (last_area areas))
