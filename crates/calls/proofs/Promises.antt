-- A card just opened keeps its promise in every run of calls.
use Rattle.std.proofs.Common.{◌≡◌, ℕ, ◌+◌, true, leb, List, ◌++◌, is_some, Some, None, Option, sym, refl, ap, ◌∙◌, subst, arith}
use Rattle.std.proofs.lemmas.Bool.{false≢true}
use Rattle.planes.specs.declared.size.Size.{Size}
use Rattle.areas.specs.declared.rect.Rect.{Rect}
use Rattle.areas.specs.Rects.{rect_on}
use Rattle.areas.specs.Areas.{Area, Stale, Meets, last_area, stale_rows}
use Rattle.stages.specs.Stages.{Picture, made}
use Rattle.filters.specs.Morphology.{On, NowhereBelow}
use Rattle.filters.proofs.Cuts.{goes_with_cuts}
use Rattle.filters.proofs.Monotony.{keeps_order}
use Rattle.filters.proofs.Same.{made_alike}
use Rattle.recipes.specs.declared.recipe.Stage.{Stage}
use Rattle.tones.specs.Kind.{Kind, Laws}
use Rattle.tones.specs.Marks.{mark}
use Rattle.calls.specs.Calls.{State, Answer}
use Rattle.calls.specs.Calls.Call.{Row}
use Rattle.calls.specs.Calls.Answer.{Done, Number, Piece, Next, Refused, Met}
use Rattle.calls.specs.History.{History, in_force, stale, raw}
use Rattle.calls.specs.Runs.{Run, Begun, only_work, Shows, IsRightPiece, IsRightRow}
use Rattle.calls.specs.Promise.{opening, raw_card, finished_card, FewerLeft, ComesClean, FinishesRight, FinishesWithCuts, FinishesInOrder, Promise, KeepsPromise}
use Rattle.calls.proofs.Lessening.{rows_less, last_clean}
use Rattle.calls.proofs.Rightness.{finished_clean}
use Rattle.calls.proofs.Keeping.{Kept, kept_run}
use Rattle.calls.proofs.Answering.{says}
use Rattle.calls.proofs.Working.{run_on, in_force_on, raw_on, rows_on}

-- without an area no piece meets it
no_meeting : (a : Area) (x y n c : ℕ) → a ≡ None → Meets a x y n c → ⊥
no_meeting a x y n c e meets = subst (λ b. Stale b c y) e meets.stale_there

module _ {T R : Type 0} (K : Kind T R) (size : Size) (most : ℕ) (first : Picture T) where
  -- a piece inside is handed out where the last stage has no area
  piece_handed : (h : History R) (x y n : ℕ) → last_area (stale size h) ≡ None → (a : Answer R) → IsRightPiece K size most first h x y n a → (p : List R) × (a ≡ Piece p) × Shows K size most first h x y n p
  piece_handed h x y n none (Piece p) s = (p, refl, s.1)
  piece_handed h x y n none (Met c) s = absurd (no_meeting (last_area (stale size h)) x y n c none s)
  piece_handed h x y n none Done s = absurd s
  piece_handed h x y n none (Number k) s = absurd s
  piece_handed h x y n none (Next o) s = absurd s
  piece_handed h x y n none (Refused e) s = absurd s

  row_handed : (h : History R) (x y n : ℕ) (o : Option Rect) → is_some o ≡ true → last_area (stale size h) ≡ None → (a : Answer R) → IsRightRow K size most first h o x y n a → (p : List R) × (a ≡ Piece p) × Shows K size most first h x y n p
  row_handed h x y n None some none a s = absurd (false≢true some)
  row_handed h x y n (Some r) some none a s = piece_handed h x y n none a s

  -- work does not change what a piece has to show
  shows_before : (g h : History R) → only_work g ≡ true → (x y n : ℕ) (p : List R) → Shows K size most first (g ++ h) x y n p → Shows K size most first h x y n p
  shows_before g h only x y n p s = record {
    long = s.long;
    tones = λ i l.
        s.tones i l
        ∙ (ap (λ ss. made K size ss (raw K first (g ++ h)) (x + i) y) (in_force_on g h only)
        ∙ ap (λ f. made K size (in_force h) f (x + i) y) (raw_on K first g h only));
  }

module _ {T R : Type 0} (K : Kind T R) (law : Laws K) (size : Size) where
  -- what holds of a card after every history of a run from its opening
  kept : (most : ℕ) (st : State R) → Begun size most st → (h : History R) (at : State R) → Run K st h at → Kept K size most (opening K size st) h at
  kept most st begun = kept_run K law size most st begun

  finishes_right : (most : ℕ) (st : State R) → Begun size most st → FinishesRight K size most st
  finishes_right most st begun h at done =
      let sound = (kept most st begun h at done.run).sound in
      finished_clean K size (raw_card K size st h) at.memory (in_force h) (stale size h) sound.raw sound.right sound.fit done.clean

  -- pictures that a recipe makes of two raw cards go in order as these do
  in_order : (ss : List Stage) (f e f' e' : Picture T) → ((x y : ℕ) → On size x y → f' x y ≡ made K size ss f x y) → ((x y : ℕ) → On size x y → e' x y ≡ made K size ss e x y) → NowhereBelow K size f e → NowhereBelow K size f' e'
  in_order ss f e f' e' ff ee low x y on =
      let less = keeps_order K law size ss f e low x y on in
      let p = ff x y on in
      let q = ee x y on in
      rw (p, q) less

  module _ (most : ℕ) (st : State R) (begun : Begun size most st) where
    fewer_left : FewerLeft K size most st
    unfolding stale
    fewer_left h at run budget = omega (arith, rows_less size budget (stale size h) (kept most st begun h at run).sound.fit)

    comes_clean : ComesClean K size most st
    comes_clean h g at off x y n inside a to out =
        let all = kept most st begun (g ++ h) at (run_on K st off.mid h off.before g at off.since) in
        let clean : stale_rows (stale size (g ++ h)) ≡ 0 = omega (arith, rows_on size g h off.only (kept most st begun h off.mid off.before).sound.fit, off.enough) in
        let none = last_clean size (stale size (g ++ h)) all.sound.fit clean in
        let said = says K size most (opening K size st) (g ++ h) at all (Row x y n) a to out in
        let handed = row_handed K size most (opening K size st) (g ++ h) x y n (rect_on size x y n 1) inside none a said in
        (handed.0, handed.1, shows_before K size most (opening K size st) g h off.only x y n handed.0 handed.2)

    finishes_with_cuts : FinishesWithCuts K size most st
    finishes_with_cuts h at done zeros t x y on =
        ap (λ v. mark (leb (K.code t) (K.code v))) (finishes_right most st begun h at done x y on)
        ∙ goes_with_cuts K law size (in_force h) zeros t (raw_card K size st h) x y on

    finishes_in_order : FinishesInOrder K size most st
    finishes_in_order others other begun' h g at bt done done' same =
        let f = raw_card K size st h in
        let e = raw_card K size other g in
        let one = finishes_right most st begun h at done in
        let two : (x y : ℕ) → On size x y → finished_card K size g bt x y ≡ made K size (in_force h) e x y = λ x y on. finishes_right others other begun' g bt done' x y on ∙ sym (made_alike K size (in_force h) (in_force g) same e e (λ u v _ _. refl) x y on.0 on.1) in
        (in_order (in_force h) f e (finished_card K size h at) (finished_card K size g bt) one two, in_order (in_force h) e f (finished_card K size g bt) (finished_card K size h at) two one)

    promise : Promise K size most st
    promise = record {
      answers_right = λ h at run c a to out. says K size most (opening K size st) h at (kept most st begun h at run) c a to out;
      fewer_left = fewer_left;
      comes_clean = comes_clean;
      finishes_right = finishes_right most st begun;
      finishes_with_cuts = finishes_with_cuts;
      finishes_in_order = finishes_in_order;
    }

-- every kind of tones keeps it
pub keeps_promise : {T R : Type 0} (K : Kind T R) → Laws K → KeepsPromise K
keeps_promise K law size most st begun = promise K law size most st begun
