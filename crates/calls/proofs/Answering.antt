-- Every call of a run answers what the rules say.
use Rattle.std.proofs.Common.{◌≡◌, ℕ, ◌+◌, ◌<◌, ◌≤◌, ◌&&◌, ltb, leb, length, get_or, drop, Some, None, Option, sym, refl, ap, ◌∙◌, subst, arith}
use Rattle.std.proofs.lemmas.List.{length-take-le, length-drop, get_or-take, get_or-drop}
use Rattle.std.proofs.lemmas.Bool.{cond_both}
use Rattle.std.proofs.lemmas.Bool.Decides.{nat_tests}
use Rattle.planes.specs.declared.size.Size.{Size}
use Rattle.planes.specs.Sizes.{cell, start}
use Rattle.areas.specs.declared.rect.Rect.{Rect}
use Rattle.areas.specs.Rects.{rect_on}
use Rattle.areas.specs.Areas.{Misses, FirstMet, last_area, met}
use Rattle.areas.proofs.Meeting.{met_first}
use Rattle.stages.specs.Planes.{blank}
use Rattle.stages.specs.Stages.{Picture}
use Rattle.tones.specs.Kind.{Kind}
use Rattle.calls.specs.Calls.{State, Call, Answer}
use Rattle.calls.specs.Calls.Call.{Patch, Install, Work, Row, Left, Due}
use Rattle.calls.specs.Outcomes.{part, piece_answer, row_answer, Outcome}
use Rattle.calls.specs.History.{History, in_force, stale, raw}
use Rattle.calls.specs.Runs.{Shows, IsRightPiece, IsRightRow, IsRight}
use Rattle.calls.proofs.Written.{plane_within, row_within}
use Rattle.calls.proofs.Rightness.{finished_right}
use Rattle.calls.proofs.Keeping.{Kept, opened, answer_is}

-- a piece lies wholly on the card
pub record OnRow (size : Size) (x y n : ℕ) : Type 0 where
  pub across : x + n ≤ size.width
  pub down : y < size.height

piece_on : (size : Size) (x y n : ℕ) (r : Rect) → rect_on size x y n 1 ≡ Some r → OnRow size x y n
piece_on size x y n r =
    cond_both ((ltb 0 n && leb (x + n) size.width) && (ltb 0 1 && leb (y + 1) size.height)) _ _ (λ o. o ≡ Some r → OnRow size x y n)
    (λ e _. record { across = grind (arith, nat_tests); down = grind (arith, nat_tests) })
    (λ e f. let z : ◌≡◌ {A = ℕ} 0 1 = cc in absurd (omega arith))

module _ {T R : Type 0} (K : Kind T R) (size : Size) (most : ℕ) (first : Picture T) (h : History R) (at : State R) (kept : Kept K size most first h at) where
  module _ (x y n : ℕ) (on : OnRow size x y n) where
    -- where a piece begins in the finished plane
    abbrev from : ℕ
    from = start size (length (in_force h)) + cell size x y

    within : from + n ≤ length at.memory
    within =
        let sound = kept.sound in
        omega (arith, row_within size x y n on.across on.down, plane_within size (length (in_force h)) most (length at.memory) sound.few sound.long)

    -- a piece outside the last stage's area shows the right tones
    piece_right : Misses (last_area (stale size h)) x y n → Shows K size most first h x y n (part K (opened K size most first h at) x y n)
    piece_right misses = record {
      long = length-take-le n (drop from at.memory) (omega (arith, length-drop from at.memory, within));
      tones = λ i l.
          let e : from + i ≡ start size (length (in_force h)) + cell size (x + i) y = omega arith in
          let in-card : x + i < size.width = omega (arith, on.across) in
          ap K.counted (get_or-take n (drop from at.memory) i (blank K) l
          ∙ (get_or-drop from at.memory i (blank K)
          ∙ ap (λ k. get_or at.memory k (blank K)) e))
          ∙ finished_right K size (raw K first h) at.memory (in_force h) (stale size h) kept.sound.raw kept.sound.right (x + i) y (in-card, on.down) (misses.none (x + i) (omega arith) (omega arith));
    }

    piece_says : (q : Option ℕ) → FirstMet (last_area (stale size h)) x y n q → IsRightPiece K size most first h x y n (piece_answer K (part K (opened K size most first h at) x y n) q)
    piece_says None misses = (misses, piece_right misses)
    piece_says (Some c) meets = meets

  row_says : (x y n : ℕ) (o : Option Rect) → rect_on size x y n 1 ≡ o → IsRightRow K size most first h o x y n (row_answer K o (part K (opened K size most first h at) x y n) (met (last_area (stale size h)) x y n))
  row_says x y n None e = refl
  row_says x y n (Some r) e = piece_says x y n (piece_on size x y n r e) (met (last_area (stale size h)) x y n) (met_first (last_area (stale size h)) x y n)

  pub says : (c : Call R) (a : Answer R) (to : State R) → Outcome K at c a to → IsRight K size most first h c a
  says (Patch x y w n tones) a to out = answer_is K size most first h at kept (Patch x y w n tones) a to out
  says (Install d) a to out = answer_is K size most first h at kept (Install d) a to out
  says (Work budget) a to out = answer_is K size most first h at kept (Work budget) a to out
  says (Row x y n) a to out =
      subst (IsRightRow K size most first h (rect_on size x y n 1) x y n) (sym (answer_is K size most first h at kept (Row x y n) a to out))
      (row_says x y n (rect_on size x y n 1) refl)
  says Left a to out = answer_is K size most first h at kept Left a to out
  says Due a to out = answer_is K size most first h at kept Due a to out
