-- What is seen at a pixel of a plane, and what a stage makes of that. Assumes nothing.
use Rattle.std.specs.Prelude.{ℕ, Option}
use Rattle.recipes.specs.declared.recipe.Stage.{Stage}
use Rattle.stages.specs.Planes.{picture}
use Rattle.stages.specs.Stages.{Picture, bag, cleaned}
use Rattle.stages.specs.Taps.{tap_adds, tap_reads}
use Rattle.stages.specs.declared.site.Site.{Site}
use Rattle.stages.specs.declared.taps.Tap.{Tap}
use Rattle.tones.specs.declared.interface.Tone.{Ghosts}

-- of tones of one kind
module _ {T R : Type 0} {G : Ghosts T R} (site : Site T R G) where
  -- the picture of the plane around the pixel
  abbrev pub seen : Picture T
  seen = picture G.kind site.frame.size 0 site.plane.now

  -- the code that a tap reads there, if that lies on the card
  abbrev pub read_at : Tap → Option ℕ
  read_at = tap_reads G.kind site.frame.size seen site.x site.y

  -- what a tap adds there to the weight of a code
  abbrev pub added_at : Tap → ℕ → ℕ
  added_at = tap_adds G.kind site.frame.size seen site.x site.y

  -- the weights of a stage's window there
  abbrev pub window_at : Stage → ℕ → ℕ
  window_at s = bag G.kind site.frame.size s seen site.x site.y

  -- what a stage makes there
  abbrev pub cleaned_at : Stage → T
  cleaned_at s = cleaned G.kind site.frame.size s seen site.x site.y
