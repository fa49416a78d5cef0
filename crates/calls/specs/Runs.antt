-- Runs of calls, and what the rules say that each call of a run answers. Assumes nothing.
use Rattle.std.specs.Prelude.{◌≡◌, ℕ, ◌+◌, ◌<◌, min, Bool, true, false, List, [], ◌∷◌, length, Some, None, Option, slice_index_or}
use Rattle.planes.specs.declared.size.Size.{Size}
use Rattle.planes.specs.Sizes.{Limits}
use Rattle.areas.specs.declared.rect.Rect.{Rect}
use Rattle.areas.specs.Rects.{rect_on}
use Rattle.areas.specs.Areas.{stale_rows, next_of, last_area, Misses, Meets}
use Rattle.stages.specs.Planes.{blank}
use Rattle.stages.specs.Stages.{Picture, made}
use Rattle.tones.specs.Kind.{Kind}
use Rattle.calls.specs.Calls.{State, Call, Answer, room}
use Rattle.calls.specs.Calls.Call.{Patch, Install, Work, Row, Left, Due}
use Rattle.calls.specs.Calls.Answer.{Done, Number, Piece, Next, Refused, Met}
use Rattle.calls.specs.Opening.{fresh}
use Rattle.calls.specs.Outcomes.{done_unless, patch_refused, install_refusal, Outcome}
use Rattle.calls.specs.History.{History, noted, in_force, stale, raw}
use Rattle.calls.specs.History.Event.{Patched, Installed, Worked}

-- calls in any number and order, each on the card and the memory as the calls before left them, with the history that
-- they make
pub data Run {T R : Type 0} (K : Kind T R) (from : State R) : History R → State R → Type 0 where
  none : Run K from [] from
  more :
      {h : History R} {at : State R} → Run K from h at →
      (c : Call R) (a : Answer R) (to : State R) → Outcome K at c a to →
      Run K from (noted c a h) to

-- a card just opened: a size, no recipe, nothing stale, and memory of its length
pub record Begun {R : Type 0} (size : Size) (most : ℕ) (st : State R) : Type 0 where
  pub notes : st.notes ≡ Some (fresh size.width size.height most)
  pub limits : Limits size
  pub memory : length st.memory ≡ room (fresh size.width size.height most)

-- no patch and no install was accepted
unfoldable pub only_work : {R : Type 0} → History R → Bool
only_work [] = true
only_work (Patched r tones ∷ h) = false
only_work (Installed d ∷ h) = false
only_work (Worked budget ∷ h) = only_work h

-- the sum of the budgets
unfoldable pub budgets : {R : Type 0} → History R → ℕ
budgets [] = 0
budgets (Patched r tones ∷ h) = budgets h
budgets (Installed d ∷ h) = budgets h
budgets (Worked budget ∷ h) = budget + budgets h

-- after a history, on a card with room for that many stages and with these opening tones
module _ {T R : Type 0} (K : Kind T R) (size : Size) (most : ℕ)
    (opening : Picture T) (h : History R) where
  -- what the recipe in force makes of the raw card
  abbrev pub wanted : Picture T
  wanted = made K size (in_force h) (raw K opening h)

  -- the tones of a piece are what the recipe in force makes of the raw card there
  pub record Shows (x y n : ℕ) (p : List R) : Type 0 where
    pub long : length p ≡ n
    pub tones : (i : ℕ) → i < n → K.counted (slice_index_or p i (blank K)) ≡ wanted (x + i) y

  -- a piece inside is handed out where it misses the last stage's stale area, with the right tones; where it meets the
  -- area it is refused with the first column met
  abbrev pub IsRightPiece : ℕ → ℕ → ℕ → Answer R → Type 0
  IsRightPiece x y n (Piece p) = Misses (last_area (stale size h)) x y n × Shows x y n p
  IsRightPiece x y n (Met c) = Meets (last_area (stale size h)) x y n c
  IsRightPiece x y n Done = ⊥
  IsRightPiece x y n (Number k) = ⊥
  IsRightPiece x y n (Next o) = ⊥
  IsRightPiece x y n (Refused e) = ⊥

  abbrev pub IsRightRow : Option Rect → ℕ → ℕ → ℕ → Answer R → Type 0
  IsRightRow None x y n a = a ≡ Refused 17
  IsRightRow (Some r) x y n a = IsRightPiece x y n a

  -- what the rules say that a call answers
  abbrev pub IsRight : Call R → Answer R → Type 0
  IsRight (Patch x y width height tones) a =
      a ≡ done_unless (patch_refused size x y width height (length tones))
  IsRight (Install d) a = a ≡ done_unless (install_refusal K.span most d)
  IsRight (Work budget) a = a ≡ Number (min budget (stale_rows (stale size h)))
  IsRight (Row x y n) a = IsRightRow (rect_on size x y n 1) x y n a
  IsRight Left a = a ≡ Number (stale_rows (stale size h))
  IsRight Due a = a ≡ Next (next_of (stale size h))
