-- What holds of a card after every history of a run.
use Rattle.std.proofs.Common.{◌≡◌, ℕ, ◌+◌, ◌*◌, ◌≤◌, min, Bool, true, false, cond, not, ◌&&◌, eqb, ltb, leb, List, ◌∷◌, length, Some, None, Option, sym, refl, ap, ◌∙◌, subst, arith}
use Rattle.std.proofs.lemmas.Bool.{cond_both, cond-false, eq-eqb, eqb-true, ltb-false}
use Rattle.std.proofs.lemmas.Bool.Decides.{nat_tests}
use Rattle.planes.specs.declared.size.Size.{Size}
use Rattle.planes.specs.Sizes.{Limits}
use Rattle.recipes.specs.declared.draft.Draft.{Draft}
use Rattle.recipes.specs.Drafts.{steps_of}
use Rattle.areas.specs.Rects.{Fits, rect_on}
use Rattle.areas.specs.Areas.{areas_fit, stale_rows}
use Rattle.stages.specs.Stages.{Picture}
use Rattle.tones.specs.Kind.{Kind, Laws}
use Rattle.calls.specs.Calls.{Notes, Open, State, Call, Answer, room}
use Rattle.calls.specs.Calls.Call.{Patch, Install, Work, Row, Left, Due}
use Rattle.calls.specs.Outcomes.{drafted, patch_refusal, install_refusal, done_unless, kept_if, rectangle, patched, installed, redone_rows, takes_memory, misfit, answer_by, answer_open, after_by, after_open, Outcome}
use Rattle.calls.specs.History.{Event, History, accepted, noted, in_force, stale, raw}
use Rattle.calls.specs.History.Event.{Patched, Installed, Worked}
use Rattle.calls.specs.Runs.{Run, Begun}
use Rattle.calls.specs.Runs.Run.{none, more}
use Rattle.calls.specs.Promise.{opening}
use Rattle.calls.proofs.Rightness.{Right}
use Rattle.calls.proofs.Lessening.{less_within}
use Rattle.calls.proofs.Soundness.{Sound, sound_patch, sound_install, notes_redone, sound_redone}

-- memory of its length is not refused
no_misfit : (b : Bool) (n k : ℕ) → n ≡ k → cond b (not (eqb n k)) false ≡ false
no_misfit true n k e = ap not (eq-eqb n k e)
no_misfit false n k e = refl

-- an accepted patch lies on the card, and has its count of tones
patch_accepted : (size : Size) (x y w h count : ℕ) → patch_refusal (rect_on size x y w h) (w * h) count ≡ None → Fits size (rectangle x y w h) × (count ≡ w * h)
patch_accepted size x y w h count =
    cond_both ((ltb 0 w && leb (x + w) size.width) && (ltb 0 h && leb (y + h) size.height)) _ _ (λ o. patch_refusal o (w * h) count ≡ None → Fits size (rectangle x y w h) × (count ≡ w * h))
    (λ e. cond_both (eqb count (w * h)) _ _ (λ o. o ≡ None → Fits size (rectangle x y w h) × (count ≡ w * h))
    (λ f _. (record { columns = grind (arith, nat_tests); wide = grind (arith, nat_tests); rows = grind (arith, nat_tests); high = grind (arith, nat_tests) }, eqb-true count (w * h) f))
    (λ f n. let z : ◌≡◌ {A = ℕ} 0 1 = cc in absurd (omega arith)))
    (λ e n. let z : ◌≡◌ {A = ℕ} 0 1 = cc in absurd (omega arith))

-- an accepted draft makes no more stages than the card has planes for
install_accepted : (span most : ℕ) (d : Draft) → install_refusal span most d ≡ None → length (drafted d) ≤ most
install_accepted span most d =
    cond_both (ltb (length (steps_of d)) d.declared) _ _ (λ o. o ≡ None → length (drafted d) ≤ most)
    (λ e n. let z : ◌≡◌ {A = ℕ} 0 1 = cc in absurd (omega arith))
    (λ e. cond_both (ltb most (length (drafted d))) _ _ (λ o. o ≡ None → length (drafted d) ≤ most)
    (λ f n. let z : ◌≡◌ {A = ℕ} 0 1 = cc in absurd (omega arith))
    (λ f _. ltb-false most (length (drafted d)) f))

-- the notes that a history makes
abbrev pub notes_after : {R : Type 0} → Size → ℕ → History R → Notes
notes_after size most h = record { size = size; most = most; recipe = in_force h; areas = stale size h }

module _ {T R : Type 0} (K : Kind T R) (size : Size) (most : ℕ) (first : Picture T) where
  -- a memory is sound for what a history makes
  abbrev pub SoundAfter : History R → List R → Type 0
  SoundAfter h m = Sound K size most (raw K first h) m (in_force h) (stale size h)

  -- the notes agree with the history, and the memory is sound
  pub record Kept (h : History R) (at : State R) : Type 0 where
    pub notes : at.notes ≡ Some (notes_after size most h)
    pub sound : SoundAfter h at.memory

  -- the card as the history and the memory say
  abbrev pub opened : History R → State R → Open R
  opened h at = record { notes = notes_after size most h; weights = at.weights; memory = at.memory }

  -- a call after a history answers and leaves what a card with a size, on memory of its length, does
  module _ (h : History R) (at : State R) (kept : Kept h at) (c : Call R) (a : Answer R) (to : State R) (out : Outcome K at c a to) where
    fit : misfit (opened h at) c ≡ false
    fit = no_misfit (takes_memory c) (length at.memory) (room (notes_after size most h)) kept.sound.long

    pub answer_is : a ≡ answer_open K (opened h at) c
    answer_is =
        out.answer
        ∙ (ap (λ n. answer_by K at.weights at.memory n c) kept.notes
        ∙ cond-false (misfit (opened h at) c) _ _ fit)

    notes_are : to.notes ≡ Some (after_open K (opened h at) c).notes
    notes_are =
        out.notes
        ∙ (ap (λ n. (after_by K at.weights at.memory n c).notes) kept.notes
        ∙ ap (λ (s : State R). s.notes) (cond-false (misfit (opened h at) c) _ _ fit))

    pub memory_is : to.memory ≡ (after_open K (opened h at) c).memory
    memory_is =
        out.memory
        ∙ (ap (λ n. (after_by K at.weights at.memory n c).memory) kept.notes
        ∙ ap (λ (s : State R). s.memory) (cond-false (misfit (opened h at) c) _ _ fit))

  -- a state that has the notes of a history and a sound memory
  kept_from : (h : History R) (o : Open R) (to : State R) → to.notes ≡ Some o.notes → to.memory ≡ o.memory → o.notes ≡ notes_after size most h → SoundAfter h o.memory → Kept h to
  kept_from h o to n m same sound = record { notes = n ∙ ap Some same; sound = subst (SoundAfter h) (sym m) sound }

  -- a refused call leaves the card, an accepted one is noted
  kept_either : (h : History R) (e : Event R) (refusal : Option ℕ) (before after : Open R) (a : Answer R) (to : State R) → a ≡ done_unless refusal → to.notes ≡ Some (kept_if refusal before after).notes → to.memory ≡ (kept_if refusal before after).memory →
      before.notes ≡ notes_after size most h → SoundAfter h before.memory →
      (refusal ≡ None → (after.notes ≡ notes_after size most (e ∷ h)) × SoundAfter (e ∷ h) after.memory) → Kept (cond (accepted a) (e ∷ h) h) to
  kept_either h e None before after a to is n m same sound then =
      subst (λ b. Kept (cond (accepted b) (e ∷ h) h) to) (sym is) (kept_from (e ∷ h) after to n m (then refl).0 (then refl).1)
  kept_either h e (Some k) before after a to is n m same sound then =
      subst (λ b. Kept (cond (accepted b) (e ∷ h) h) to) (sym is) (kept_from h before to n m same sound)

  -- every call keeps that
  kept_call : Laws K → Limits size → (h : History R) (at : State R) → Kept h at → (c : Call R) (a : Answer R) (to : State R) → Outcome K at c a to → Kept (noted c a h) to
  unfolding in_force stale raw
  kept_call law limits h at kept (Patch x y w n tones) a to out =
      let c = Patch x y w n tones in
      kept_either h (Patched (rectangle x y w n) tones) (patch_refusal (rect_on size x y w n) (w * n) (length tones)) (opened h at) (patched K x y w n tones (opened h at)) a to
      (answer_is h at kept c a to out) (notes_are h at kept c a to out) (memory_is h at kept c a to out) refl kept.sound (λ none.
      let fits = patch_accepted size x y w n (length tones) none in
      (refl, sound_patch K law size most (raw K first h) at.memory (in_force h) (stale size h) kept.sound x y w n tones fits.0 fits.1))
  kept_call law limits h at kept (Install d) a to out =
      let c = Install d in
      kept_either h (Installed d) (install_refusal K.span most d) (opened h at) (installed K (drafted d) (opened h at)) a to
      (answer_is h at kept c a to out) (notes_are h at kept c a to out) (memory_is h at kept c a to out) refl kept.sound (λ none.
      (refl, sound_install K law size most (raw K first h) at.memory (in_force h) (stale size h) kept.sound limits (drafted d) (install_accepted K.span most d none)))
  kept_call law limits h at kept (Work budget) a to out =
      let c = Work budget in
      let n = min budget (stale_rows (stale size h)) in
      let less-is = less_within size budget (stale size h) kept.sound.fit in
      subst (λ b. Kept (cond (accepted b) (Worked budget ∷ h) h) to) (sym (answer_is h at kept c a to out))
      (kept_from (Worked budget ∷ h) (redone_rows K n (opened h at)) to (notes_are h at kept c a to out) (memory_is h at kept c a to out)
      (notes_redone K law size most (raw K first h) (in_force h) (stale size h) (opened h at) refl kept.sound n
      ∙ ap (λ bs. record { size = size; most = most; recipe = in_force h; areas = bs }) less-is)
      (subst (λ bs. Sound K size most (raw K first h) (redone_rows K n (opened h at)).memory (in_force h) bs) less-is
      (sound_redone K law size most (raw K first h) (in_force h) (stale size h) (opened h at) refl kept.sound n)))
  kept_call law limits h at kept (Row x y n) a to out =
      let c = Row x y n in
      kept_from h (opened h at) to (notes_are h at kept c a to out) (memory_is h at kept c a to out) refl kept.sound
  kept_call law limits h at kept Left a to out =
      kept_from h (opened h at) to (notes_are h at kept Left a to out) (memory_is h at kept Left a to out) refl kept.sound
  kept_call law limits h at kept Due a to out =
      kept_from h (opened h at) to (notes_are h at kept Due a to out) (memory_is h at kept Due a to out) refl kept.sound

-- so a run keeps it
pub kept_run : {T R : Type 0} (K : Kind T R) → Laws K → (size : Size) (most : ℕ) (st : State R) → Begun size most st → (h : History R) (at : State R) → Run K st h at → Kept K size most (opening K size st) h at
unfolding in_force stale raw areas_fit Right
kept_run K law size most st begun h at none = record {
  notes = begun.notes;
  sound = record { long = begun.memory; few = omega arith; fit = refl; raw = λ x y on out. refl; right = tt };
}
kept_run K law size most st begun h at (more {h = g} {at = by} run c a to out) =
    kept_call K size most (opening K size st) law begun.limits g by (kept_run K law size most st begun g by run) c a to out
