-- What a card has to show, from its size, its opening tones and the accepted calls alone. Assumes nothing.
use Rattle.std.specs.Prelude.{ℕ, zero, suc, ◌+◌, ◌-◌, ◌*◌, Bool, true, false, if◌then◌else◌, ◌&&◌, List, [], ◌∷◌, nat_le, nat_lt, slice_index_or}
use Rattle.planes.specs.declared.size.Size.{Size}
use Rattle.planes.specs.Sizes.{start}
use Rattle.recipes.specs.declared.draft.Draft.{Draft}
use Rattle.recipes.specs.declared.recipe.Stage.{Stage}
use Rattle.areas.specs.declared.rect.Rect.{Rect}
use Rattle.areas.specs.Areas.{Area, all_stale, spread, dropped}
use Rattle.stages.specs.Planes.{blank, picture}
use Rattle.stages.specs.Stages.{Picture}
use Rattle.tones.specs.Kind.{Kind}
use Rattle.calls.specs.Calls.{Call, Answer}
use Rattle.calls.specs.Calls.Call.{Patch, Install, Work, Row, Left, Due}
use Rattle.calls.specs.Calls.Answer.{Done, Number, Piece, Next, Refused, Met}
use Rattle.calls.specs.Outcomes.{drafted, rectangle}

-- an accepted call that changes something, with its arguments
pub data Event (R : Type 0) : Type 0 where
  Patched : Rect → List R → Event R
  Installed : Draft → Event R
  Worked : ℕ → Event R

-- the latest first
abbrev pub History : Type 0 → Type 0
History R = List (Event R)

-- a call was accepted
abbrev pub accepted : {R : Type 0} → Answer R → Bool
accepted Done = true
accepted (Number n) = true
accepted (Piece p) = true
accepted (Next o) = true
accepted (Refused n) = false
accepted (Met c) = false

-- the history after a call and its answer
abbrev pub noted : {R : Type 0} → Call R → Answer R → History R → History R
noted (Patch x y width height tones) a h =
    if accepted a then Patched (rectangle x y width height) tones ∷ h else h
noted (Install d) a h = if accepted a then Installed d ∷ h else h
noted (Work budget) a h = if accepted a then Worked budget ∷ h else h
noted (Row x y n) a h = h
noted Left a h = h
noted Due a h = h

-- the recipe in force: that of the last accepted install, or the empty one before any
unfoldable pub in_force : {R : Type 0} → History R → List Stage
in_force [] = []
in_force (Patched r tones ∷ h) = in_force h
in_force (Installed d ∷ h) = drafted d
in_force (Worked budget ∷ h) = in_force h

-- the areas less so many rows, each time the top row of the lowest stage that has an area
unfoldable pub less : ℕ → List Area → List Area
less zero areas = areas
less (suc n) areas = dropped (less n areas)

-- the stale areas
unfoldable pub stale : {R : Type 0} → Size → History R → List Area
stale size [] = []
stale size (Patched r tones ∷ h) = spread size (in_force h) r (stale size h)
stale size (Installed d ∷ h) = all_stale size (drafted d)
stale size (Worked budget ∷ h) = less budget (stale size h)

-- a rectangle has the pixel in column x and row y
abbrev pub holds : Rect → ℕ → ℕ → Bool
holds r x y = (nat_le r.left x && nat_lt x r.right) && (nat_le r.top y && nat_lt y r.bottom)

-- where in a rectangle's tones, row by row, that of the pixel in column x and row y stands
abbrev pub place_in : Rect → ℕ → ℕ → ℕ
place_in r x y = (y - r.top) * (r.right - r.left) + (x - r.left)

module _ {T R : Type 0} (K : Kind T R) where
  -- the picture that plane j of a memory holds
  abbrev pub plane : Size → ℕ → List R → Picture T
  plane size j m = picture K size (start size j) m

  -- a patch laid over a picture, row by row
  abbrev pub painted : Rect → List R → Picture T → Picture T
  painted r tones f x y =
      if holds r x y
      then K.counted (slice_index_or tones (place_in r x y) (blank K))
      else f x y

  -- the raw card: the opening tones with all accepted patches, in the order of the calls
  unfoldable pub raw : Picture T → History R → Picture T
  raw opening [] = opening
  raw opening (Patched r tones ∷ h) = painted r tones (raw opening h)
  raw opening (Installed d ∷ h) = raw opening h
  raw opening (Worked budget ∷ h) = raw opening h
