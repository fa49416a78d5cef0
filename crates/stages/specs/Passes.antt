-- What a pass reads of a memory and leaves in it. Assumes nothing.
use Rattle.std.specs.Prelude.{ℕ, ◌+◌, List, slice_set}
use Rattle.planes.specs.Sizes.{cell}
use Rattle.stages.specs.Planes.{picture}
use Rattle.stages.specs.Rows.{picture_made, row_made, row_weights}
use Rattle.stages.specs.Stages.{Picture, bag}
use Rattle.stages.specs.declared.pass.Pass.{Pass}
use Rattle.tones.specs.Kind.{Kind}

module _ {T R : Type 0} (K : Kind T R) (p : Pass) (m : List R) where
  -- the picture that the pass reads
  abbrev pub picture_read : Picture T
  picture_read = picture K p.frame.size p.from m

  -- the tone that its stage makes of a pixel of that
  abbrev pub tone_made : ℕ → ℕ → T
  tone_made = picture_made K p.frame.size p.window.now.stage p.from m

  -- the memory with that tone written into the plane that the pass writes
  abbrev pub pixel_made : ℕ → ℕ → List R
  pixel_made x y = slice_set m (p.into + cell p.frame.size x y) (K.row (tone_made x y))

  -- the weights of that pixel's window
  abbrev pub pixel_weights : ℕ → ℕ → ℕ → ℕ
  pixel_weights x y = bag K p.frame.size p.window.now.stage picture_read x y

  -- the memory with what is made of the columns from left up to right of row y
  abbrev pub stretch_made : ℕ → ℕ → ℕ → List R
  stretch_made y left right =
      row_made K p.frame.size p.window.now.stage p.from m y left right p.into

  -- the weights that their windows leave, made from left to right
  abbrev pub stretch_weights : ℕ → ℕ → ℕ → (ℕ → ℕ) → ℕ → ℕ
  stretch_weights y left right =
      row_weights K p.frame.size p.window.now.stage p.from m y left right
