-- What a stretch of a row of a stage leaves in memory and in the selector. Assumes nothing.
use Rattle.std.specs.Prelude.{ℕ, ◌+◌, ◌-◌, if◌then◌else◌, List, nat_lt}
use Rattle.planes.specs.Sizes.{cell}
use Rattle.planes.specs.declared.size.Size.{Size}
use Rattle.recipes.specs.declared.recipe.Stage.{Stage}
use Rattle.stages.specs.Planes.{line, overwritten, picture}
use Rattle.stages.specs.Stages.{Picture, bag, cleaned}
use Rattle.tones.specs.Kind.{Kind}

-- the window of the last pixel of the columns from left up to right, and what the selector held
-- before where there is none
abbrev pub last_window : (ℕ → ℕ → ℕ) → (ℕ → ℕ) → ℕ → ℕ → ℕ → ℕ
last_window bags before left right c = if nat_lt left right then bags (right - 1) c else before c

-- of the picture whose plane begins at `from` in a memory
module _ {T R : Type 0} (K : Kind T R) (size : Size) (s : Stage) (from : ℕ) (m : List R) where
  -- what the stage makes of it
  abbrev pub picture_made : Picture T
  picture_made x y = cleaned K size s (picture K size from m) x y

  -- the columns from left up to right of row y
  module _ (y left right : ℕ) where
    -- the memory with what the stage makes of them laid into the plane that begins at `into`
    abbrev pub row_made : ℕ → List R
    row_made into =
        overwritten m (into + cell size left y) (line K picture_made y left (right - left))

    -- the weights that their windows leave, made from left to right
    abbrev pub row_weights : (ℕ → ℕ) → ℕ → ℕ
    row_weights before =
        last_window (λ u. bag K size s (picture K size from m) u y) before left right
