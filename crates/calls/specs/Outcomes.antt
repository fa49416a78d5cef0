-- What each call answers and leaves. Assumes nothing.
use Rattle.std.specs.Prelude.{◌≡◌, ℕ, zero, suc, ◌+◌, ◌*◌, min, Bool, true, false, if◌then◌else◌, not, List, [], ◌∷◌, map, length, take, drop, Some, None, Option, ◌==◌, nat_lt}
use Rattle.planes.specs.declared.size.Size.{Size}
use Rattle.planes.specs.Sizes.{cell, start}
use Rattle.recipes.specs.declared.draft.Draft.{Draft}
use Rattle.recipes.specs.declared.recipe.Stage.{Stage}
use Rattle.recipes.specs.Drafts.{steps_of, declared_by}
use Rattle.recipes.specs.Recipes.{stages_of, amounts_within}
use Rattle.areas.specs.declared.rect.Rect.{Rect}
use Rattle.areas.specs.Rects.{rect_on}
use Rattle.areas.specs.Areas.{Area, all_stale, spread, dropped, stale_rows, next_of, last_area, met}
use Rattle.stages.specs.Planes.{overwritten}
use Rattle.stages.specs.Rows.{row_made, row_weights}
use Rattle.tones.specs.Kind.{Kind}
use Rattle.calls.specs.Calls.{Notes, Open, State, open_state, Call, Answer, room}
use Rattle.calls.specs.Calls.Call.{Patch, Install, Work, Row, Left, Due}
use Rattle.calls.specs.Calls.Answer.{Done, Number, Piece, Next, Refused, Met}

-- the stages of a draft
abbrev pub drafted : Draft → List Stage
drafted d = stages_of (steps_of d)

-- a patch is refused where its rectangle is empty or not wholly on the card (17), then where the count of its tones is
-- wrong (18)
abbrev pub patch_refusal : Option Rect → ℕ → ℕ → Option ℕ
patch_refusal None pixels count = Some 17
patch_refusal (Some r) pixels count = if count == pixels then None else Some 18

-- a patch of a card of that size, by its corner, its width and height, and the count of its tones
abbrev pub patch_refused : Size → ℕ → ℕ → ℕ → ℕ → ℕ → Option ℕ
patch_refused size x y width height count =
    patch_refusal (rect_on size x y width height) (width * height) count

-- an install is refused where the draft has fewer steps than declared (19), then where it makes more stages than the card
-- has planes for (20), then where an amount is outside the span (21)
abbrev pub install_refusal : ℕ → ℕ → Draft → Option ℕ
install_refusal span most d =
    if nat_lt (length (steps_of d)) (declared_by d) then Some 19
    else (if nat_lt most (length (drafted d)) then Some 20
    else (if amounts_within span (drafted d) then None else Some 21))

-- done, or refused
abbrev pub done_unless : {R : Type 0} → Option ℕ → Answer R
done_unless None = Done
done_unless (Some n) = Refused n

-- as it was where a call is refused, and else as the call makes it
abbrev pub kept_if : {X : Type 0} → Option ℕ → X → X → X
kept_if None before after = after
kept_if (Some n) before after = before

-- the rectangle of a corner, a width and a height
abbrev pub rectangle : ℕ → ℕ → ℕ → ℕ → Rect
rectangle x y width height = record { left = x; top = y; right = x + width; bottom = y + height }

-- the notes with other areas
abbrev pub with_areas : Notes → List Area → Notes
with_areas n areas = record { size = n.size; most = n.most; recipe = n.recipe; areas = areas }

-- the notes with another recipe, of which every stage's area is the whole card
abbrev pub with_recipe : Notes → List Stage → Notes
with_recipe n stages = record {
  size = n.size;
  most = n.most;
  recipe = stages;
  areas = all_stale n.size stages;
}

-- the areas of some notes, spread from a rectangle
abbrev pub patched_areas : Notes → Rect → List Area
patched_areas n r = spread n.size n.recipe r n.areas

-- a stage that has an area, and the number of the plane that it reads
pub record Task : Type 0 where
  pub stage : Stage
  pub below : ℕ
  pub area : Rect

-- the lowest stage with an area, where the first stage reads plane j
unfoldable pub task_from : ℕ → List Stage → List Area → Option Task
task_from j [] areas = None
task_from j (s ∷ ss) [] = None
task_from j (s ∷ ss) (None ∷ rest) = task_from (suc j) ss rest
task_from j (s ∷ ss) (Some r ∷ rest) = Some (record { stage = s; below = j; area = r })

abbrev pub task : Notes → Option Task
task n = task_from 0 n.recipe n.areas

-- the rows that a budget redoes
abbrev pub rows_within : ℕ → Notes → ℕ
rows_within budget n = min budget (stale_rows n.areas)

module _ {T R : Type 0} (K : Kind T R) where
  -- some rows, each as the row of the tone that it counts as
  abbrev pub as_written : List R → List R
  as_written rows = map (λ r. K.row (K.counted r)) rows

  -- the first n rows of a patch that is w wide, laid over plane 0 from column x and row y on
  unfoldable pub laid : Size → ℕ → ℕ → ℕ → List R → List R → ℕ → List R
  laid size x y w tones m zero = m
  laid size x y w tones m (suc n) =
      overwritten (laid size x y w tones m n) (cell size x (y + n))
      (as_written (take w (drop (n * w) tones)))

  -- the top row of a task's area, made by its stage from the plane below: the memory, and the weights of the last window
  abbrev pub task_made : Size → Option Task → List R → List R
  task_made size None m = m
  task_made size (Some t) m =
      row_made K size t.stage (start size t.below) m t.area.top t.area.left t.area.right
      (start size (suc t.below))

  abbrev pub task_weights : Size → Option Task → List R → (ℕ → ℕ) → ℕ → ℕ
  task_weights size None m before = before
  task_weights size (Some t) m before =
      row_weights K size t.stage (start size t.below) m t.area.top t.area.left t.area.right before

  -- the lowest stage with an area has its top row redone, and the row leaves the area
  abbrev pub redone : Open R → Open R
  redone o = record {
    notes = with_areas o.notes (dropped o.notes.areas);
    weights = task_weights o.notes.size (task o.notes) o.memory o.weights;
    memory = task_made o.notes.size (task o.notes) o.memory;
  }

  -- so many times
  unfoldable pub redone_rows : ℕ → Open R → Open R
  redone_rows zero o = o
  redone_rows (suc n) o = redone (redone_rows n o)

  -- a patch is laid over plane 0, and the areas spread
  abbrev pub patched : ℕ → ℕ → ℕ → ℕ → List R → Open R → Open R
  patched x y width height tones o = record {
    notes = with_areas o.notes (patched_areas o.notes (rectangle x y width height));
    weights = o.weights;
    memory = laid o.notes.size x y width tones o.memory height;
  }

  -- the recipe is replaced
  abbrev pub installed : List Stage → Open R → Open R
  installed stages o =
      record { notes = with_recipe o.notes stages; weights = o.weights; memory = o.memory }

  -- n tones from column x of row y: a part of the last stage's plane, of plane 0 without stages
  abbrev pub part : Open R → ℕ → ℕ → ℕ → List R
  part o x y n =
      take n (drop (start o.notes.size (length o.notes.recipe) + cell o.notes.size x y) o.memory)

  -- a piece is refused where it is empty or not wholly on the card (17), then where it meets the last stage's area, with
  -- the first column met (22)
  abbrev pub piece_answer : List R → Option ℕ → Answer R
  piece_answer p None = Piece p
  piece_answer p (Some c) = Met c

  abbrev pub row_answer : Option Rect → List R → Option ℕ → Answer R
  row_answer None p met = Refused 17
  row_answer (Some r) p met = piece_answer p met

  -- the answers of a card with a size, on memory of its length
  abbrev pub answer_open : Open R → Call R → Answer R
  answer_open o (Patch x y width height tones) =
      done_unless (patch_refused o.notes.size x y width height (length tones))
  answer_open o (Install d) = done_unless (install_refusal K.span o.notes.most d)
  answer_open o (Work budget) = Number (rows_within budget o.notes)
  answer_open o (Row x y n) =
      row_answer (rect_on o.notes.size x y n 1) (part o x y n) (met (last_area o.notes.areas) x y n)
  answer_open o Left = Number (stale_rows o.notes.areas)
  answer_open o Due = Next (next_of o.notes.areas)

  -- what such a call leaves
  abbrev pub after_open : Open R → Call R → Open R
  after_open o (Patch x y width height tones) =
      kept_if (patch_refused o.notes.size x y width height (length tones)) o
      (patched x y width height tones o)
  after_open o (Install d) =
      kept_if (install_refusal K.span o.notes.most d) o (installed (drafted d) o)
  after_open o (Work budget) = redone_rows (rows_within budget o.notes) o
  after_open o (Row x y n) = o
  after_open o Left = o
  after_open o Due = o

-- without a size nothing is left or due, and every other call is refused (16)
abbrev pub unopened : {R : Type 0} → Call R → Answer R
unopened (Patch x y width height tones) = Refused 16
unopened (Install d) = Refused 16
unopened (Work budget) = Refused 16
unopened (Row x y n) = Refused 16
unopened Left = Number 0
unopened Due = Next None

-- a call takes the memory; left and due do not
abbrev pub takes_memory : {R : Type 0} → Call R → Bool
takes_memory (Patch x y width height tones) = true
takes_memory (Install d) = true
takes_memory (Work budget) = true
takes_memory (Row x y n) = true
takes_memory Left = false
takes_memory Due = false

-- memory of another length is refused (14)
abbrev pub misfit : {R : Type 0} → Open R → Call R → Bool
misfit o c = if takes_memory c then not (length o.memory == room o.notes) else false

module _ {T R : Type 0} (K : Kind T R) (w : ℕ → ℕ) (m : List R) where
  abbrev pub open_with : Notes → Open R
  open_with n = record { notes = n; weights = w; memory = m }

  abbrev pub answer_by : Option Notes → Call R → Answer R
  answer_by None c = unopened c
  answer_by (Some n) c =
      if misfit (open_with n) c then Refused 14 else answer_open K (open_with n) c

  abbrev pub after_by : Option Notes → Call R → State R
  after_by None c = record { notes = None; weights = w; memory = m }
  after_by (Some n) c =
      if misfit (open_with n) c
      then open_state (open_with n)
      else open_state (after_open K (open_with n) c)

module _ {T R : Type 0} (K : Kind T R) where
  -- what a call on a card in a state answers, and the state that it leaves
  abbrev pub answer_to : State R → Call R → Answer R
  answer_to from c = answer_by K from.weights from.memory from.notes c

  abbrev pub after_call : State R → Call R → State R
  after_call from c = after_by K from.weights from.memory from.notes c

  -- a call on a card in a state answers that, and leaves that state
  pub record Outcome (from : State R) (c : Call R) (a : Answer R) (to : State R) : Type 0 where
    pub answer : a ≡ answer_to from c
    pub notes : to.notes ≡ (after_call from c).notes
    pub weights : (code : ℕ) → to.weights code ≡ (after_call from c).weights code
    pub memory : to.memory ≡ (after_call from c).memory
