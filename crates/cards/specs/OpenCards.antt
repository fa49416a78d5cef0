-- What an open card notes. Assumes nothing.
use Rattle.std.specs.Prelude.{ℕ, ◌+◌, ◌-◌, ◌≤◌, List, length}
use Rattle.planes.specs.Sizes.{area, start}
use Rattle.recipes.specs.Recipes.{staged}
use Rattle.areas.specs.declared.rect.Rect.{Rect}
use Rattle.areas.specs.Listed.{listed, frame_of}
use Rattle.areas.specs.Rects.{Fits}
use Rattle.calls.specs.Calls.{Notes, Open, room}
use Rattle.cards.specs.declared.open_card.OpenCard.{OpenCard}

abbrev pub notes_of : OpenCard → Notes
notes_of s = record {
  size = (frame_of s.areas).size;
  most = s.most;
  recipe = staged s.recipe;
  areas = listed s.areas;
}

-- an open card with the weights of a selector and with memory
abbrev pub open_of : {R : Type 0} → OpenCard → (ℕ → ℕ) → List R → Open R
open_of s w m = record { notes = notes_of s; weights = w; memory = m }

-- an open card has a stage with that number, counted from 1; a rectangle lies on the card; the plane
-- below the stage's ends before its own, and that within the memory
pub record Stands (s : OpenCard) (stage : ℕ) (rect : Rect) : Type 0 where
  pub from : 1 ≤ stage
  pub to : stage ≤ length (staged s.recipe)
  pub fits : Fits (frame_of s.areas).size rect
  pub apart :
      start (frame_of s.areas).size (stage - 1) + area (frame_of s.areas).size
      ≤ start (frame_of s.areas).size stage
  pub within :
      start (frame_of s.areas).size stage + area (frame_of s.areas).size ≤ room (notes_of s)
