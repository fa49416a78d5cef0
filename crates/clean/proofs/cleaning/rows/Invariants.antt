use Rattle.std.proofs.Common.{◌≡◌, vec_items}
use Rattle.filters.specs.Restaging.{lines}
use Rattle.tones.specs.Greys.{greys}
use Rattle.clean.specs.Cleaning.{HandsOut, Shades, state}
use Rattle.clean.proofs.cleaning.rows.Given as goal

-- the rows so far
abbrev pub invariant-loop-y : goal.invariant-loop-y
invariant-loop-y l = (f : Shades) → HandsOut (state l.card l.memory) l.size f → vec_items l.tones ≡ lines greys l.size f l.y
