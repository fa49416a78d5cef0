-- What a card promises of every run of calls once it has been opened. Assumes nothing.
use Rattle.std.specs.Prelude.{◌≡◌, ℕ, ◌+◌, ◌≤◌, min, true, List, ◌∷◌, length, is_some}
use Rattle.planes.specs.declared.size.Size.{Size}
use Rattle.recipes.specs.Recipes.{amounts_within}
use Rattle.recipes.specs.Same.{SameRecipe}
use Rattle.areas.specs.Rects.{rect_on}
use Rattle.areas.specs.Areas.{stale_rows}
use Rattle.stages.specs.Stages.{Picture, made}
use Rattle.filters.specs.Morphology.{On, cut, NowhereBelow}
use Rattle.tones.specs.Kind.{Kind}
use Rattle.tones.specs.Marks.{marks}
use Rattle.calls.specs.Calls.{State, Call, Answer}
use Rattle.calls.specs.Calls.Call.{Row}
use Rattle.calls.specs.Calls.Answer.{Piece}
use Rattle.calls.specs.Outcomes.{Outcome}
use Rattle.calls.specs.History.{History, plane, in_force, stale, raw}
use Rattle.calls.specs.History.Event.{Worked}
use Rattle.calls.specs.Runs.{Run, Begun, only_work, budgets, Shows, IsRight}

-- the rows that are stale after a history
abbrev pub rows_left : {R : Type 0} → Size → History R → ℕ
rows_left size h = stale_rows (stale size h)

module _ {T R : Type 0} (K : Kind T R) (size : Size) where
  -- the opening tones of a card
  abbrev pub opening : State R → Picture T
  opening st = plane K size 0 st.memory

  -- the raw card after a history
  abbrev pub raw_card : State R → History R → Picture T
  raw_card st h = raw K (opening st) h

  -- the finished card: what stands in the last stage's plane, in plane 0 without stages
  abbrev pub finished_card : History R → State R → Picture T
  finished_card h at = plane K size (length (in_force h)) at.memory

  -- a run from an open card comes to a state by a history, and nothing is stale there
  pub record Settled (st : State R) (h : History R) (at : State R) : Type 0 where
    pub run : Run K st h at
    pub clean : rows_left size h ≡ 0

  -- one finished card is nowhere below another, if the one raw card is nowhere below the other
  abbrev pub OrderKept : State R → History R → State R →
      State R → History R → State R → Type 0
  OrderKept st h at other g bt =
      NowhereBelow K size (raw_card st h) (raw_card other g) →
      NowhereBelow K size (finished_card h at) (finished_card g bt)

  module _ (most : ℕ) (st : State R) where
    -- each call of every run answers what the rules say
    abbrev pub AnswersRight : Type 0
    AnswersRight =
        (h : History R) (at : State R) → Run K st h at →
        (c : Call R) (a : Answer R) (to : State R) → Outcome K at c a to →
        IsRight K size most (opening st) h c a

    -- a work leaves so many stale rows fewer as it redoes
    abbrev pub FewerLeft : Type 0
    FewerLeft =
        (h : History R) (at : State R) → Run K st h at → (budget : ℕ) →
        rows_left size (Worked budget ∷ h) + min budget (rows_left size h) ≡ rows_left size h

    -- since a history h, in the part g of a run, no patch and no install was accepted, and the budgets reach the rows that
    -- were stale then
    pub record WorkedOff (h g : History R) (at : State R) : Type 0 where
      pub mid : State R
      pub before : Run K st h mid
      pub since : Run K mid g at
      pub only : only_work g ≡ true
      pub enough : rows_left size h ≤ budgets g

    -- a piece is handed out, and its tones are what the recipe in force makes of the raw card
    abbrev pub HandedOut : History R → ℕ → ℕ → ℕ → Answer R → Type 0
    HandedOut h x y n a =
        (p : List R) × (a ≡ Piece p) × Shows K size most (opening st) h x y n p

    -- once worked off, every piece inside is handed out, and it is right
    abbrev pub ComesClean : Type 0
    ComesClean =
        (h g : History R) (at : State R) → WorkedOff h g at →
        (x y n : ℕ) → is_some (rect_on size x y n 1) ≡ true →
        (a : Answer R) (to : State R) → Outcome K at (Row x y n) a to →
        HandedOut h x y n a

    -- with nothing stale, the finished card is at every pixel what the recipe in force makes of
    -- the raw card
    abbrev pub FinishesRight : Type 0
    FinishesRight =
        (h : History R) (at : State R) → Settled st h at → (x y : ℕ) → On size x y →
        finished_card h at x y ≡ made K size (in_force h) (raw_card st h) x y

    -- so with all amounts 0, the finished card cut at any tone is what the recipe makes of the raw
    -- card cut there
    abbrev pub FinishesWithCuts : Type 0
    FinishesWithCuts =
        (h : History R) (at : State R) → Settled st h at →
        amounts_within 0 (in_force h) ≡ true →
        (t : T) (x y : ℕ) → On size x y →
        cut K t (finished_card h at) x y
        ≡ made marks size (in_force h) (cut K t (raw_card st h)) x y

    -- and of two cards of one size and the same recipe, with nothing stale on either, a raw one
    -- nowhere below the other finishes nowhere below it
    abbrev pub FinishesInOrder : Type 0
    FinishesInOrder =
        (others : ℕ) (other : State R) → Begun size others other →
        (h g : History R) (at bt : State R) → Settled st h at → Settled other g bt →
        SameRecipe (in_force h) (in_force g) →
        OrderKept st h at other g bt × OrderKept other g bt st h at

    pub record Promise : Type 0 where
      pub answers_right : AnswersRight
      pub fewer_left : FewerLeft
      pub comes_clean : ComesClean
      pub finishes_right : FinishesRight
      pub finishes_with_cuts : FinishesWithCuts
      pub finishes_in_order : FinishesInOrder

-- what a card just opened promises, of every kind of tones
abbrev pub KeepsPromise : {T R : Type 0} → Kind T R → Type 0
KeepsPromise {T} {R} K =
    (size : Size) (most : ℕ) (st : State R) → Begun size most st → Promise K size most st
