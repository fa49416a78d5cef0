-- Pictures as they lie in memory. Assumes nothing.
use Rattle.std.specs.Prelude.{ℕ, zero, suc, ◌+◌, List, [], ◌∷◌, ◌++◌, length, take, drop, slice_index_or}
use Rattle.planes.specs.Sizes.{cell}
use Rattle.planes.specs.declared.size.Size.{Size}
use Rattle.stages.specs.Stages.{Picture}
use Rattle.tones.specs.Kind.{Kind}

module _ {T R : Type 0} (K : Kind T R) where
  -- stands where a list has no row
  abbrev pub blank : R
  blank = K.row (K.tone 0)

  -- the picture whose plane begins at `from` in memory
  abbrev pub picture : Size → ℕ → List R → Picture T
  picture size from m x y = K.counted (slice_index_or m (from + cell size x y) blank)

  -- the rows of n pixels of a picture's row y, from column x on
  unfoldable pub line : Picture T → ℕ → ℕ → ℕ → List R
  line f y x zero = []
  line f y x (suc n) = K.row (f x y) ∷ line f y (suc x) n

-- a list with others written over it from place i on
abbrev pub overwritten : {R : Type 0} → List R → ℕ → List R → List R
overwritten m i new = take i m ++ (new ++ drop (i + length new) m)
