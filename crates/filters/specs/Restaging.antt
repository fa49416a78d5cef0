-- A whole plane, made by a stage from the plane before it. Assumes nothing.
use Rattle.std.specs.Prelude.{ℕ, zero, suc, ◌+◌, ◌-◌, List, [], ◌++◌}
use Rattle.planes.specs.declared.size.Size.{Size}
use Rattle.planes.specs.Sizes.{start}
use Rattle.recipes.specs.declared.recipe.Stage.{Stage}
use Rattle.stages.specs.Planes.{picture, line, overwritten}
use Rattle.stages.specs.Rows.{picture_made}
use Rattle.stages.specs.Stages.{Picture, bag}
use Rattle.stages.specs.declared.pass.Pass.{Pass}
use Rattle.tones.specs.Kind.{Kind}

module _ {T R : Type 0} (K : Kind T R) (size : Size) where
  -- the top n rows of a picture as they lie in a plane
  unfoldable pub lines : Picture T → ℕ → List R
  lines f zero = []
  lines f (suc n) = lines f n ++ line K f n 0 size.width

  -- the memory with the top n rows of what a stage makes of the picture whose plane begins at
  -- `from` laid into the plane that begins at `into`
  abbrev pub rows_made : Stage → ℕ → ℕ → List R → ℕ → List R
  rows_made s from into m n = overwritten m into (lines (picture_made K size s from m) n)

  -- the memory whose plane j + 1 is what the stage makes of plane j; every other cell is as it was
  abbrev pub restaged : Stage → ℕ → List R → List R
  restaged s j m = rows_made s (start size j) (start size (j + 1)) m size.height

  -- the weights of the window of the last pixel, at the bottom right, of the picture whose plane
  -- begins at `from`
  abbrev pub corner_weights : Stage → ℕ → List R → ℕ → ℕ
  corner_weights s from m = bag K size s (picture K size from m) (size.width - 1) (size.height - 1)

-- what a pass over a whole plane leaves
module _ {T R : Type 0} (K : Kind T R) (p : Pass) where
  -- the memory with every row made
  abbrev pub pass_made : List R → List R
  pass_made m = rows_made K p.frame.size p.window.now.stage p.from p.into m p.frame.size.height

  -- the weights of the last pixel's window
  abbrev pub pass_weights : List R → ℕ → ℕ
  pass_weights m = corner_weights K p.frame.size p.window.now.stage p.from m
