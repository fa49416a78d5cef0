-- What every accepted call keeps of a card's memory.
use Rattle.std.proofs.Common.{◌≡◌, ℕ, zero, suc, ◌+◌, ◌*◌, ◌≤◌, true, List, [], ◌∷◌, length, None, sym, ap, ◌∙◌, subst, mul_comm, arith}
use Rattle.std.proofs.lemmas.Bool.{cond-false}
use Rattle.planes.specs.declared.size.Size.{Size}
use Rattle.planes.specs.Sizes.{Limits, start}
use Rattle.recipes.specs.declared.recipe.Stage.{Stage}
use Rattle.areas.specs.declared.rect.Rect.{Rect}
use Rattle.areas.specs.Rects.{Fits}
use Rattle.areas.specs.Areas.{Area, areas_fit, all_stale, spread, dropped}
use Rattle.areas.proofs.Fitting.{areas_fit_all, areas_fit_dropped, areas_fit_spread}
use Rattle.stages.specs.Stages.{Picture, cleaned}
use Rattle.tones.specs.Kind.{Kind, Laws}
use Rattle.calls.specs.Calls.{Notes, Open}
use Rattle.calls.specs.Outcomes.{rectangle, laid, task_from, task_made, redone_rows, with_areas, task}
use Rattle.calls.specs.History.{holds, painted, less}
use Rattle.calls.proofs.Pixels.{false_holds}
use Rattle.calls.proofs.Rightness.{Agrees, Right, agrees_kept}
use Rattle.calls.proofs.Redoing.{task_length, task_below, task_right}
use Rattle.calls.proofs.Spreading.{SameOutside, spread_right}
use Rattle.calls.proofs.Laying.{RowsFit, laid_length, laid_painted, laid_above}

-- a memory of its length, with the raw card in plane 0 and every stage's plane right outside its area, for a recipe that has planes and areas on the card
pub record Sound {T R : Type 0} (K : Kind T R) (size : Size) (most : ℕ) (f : Picture T) (m : List R) (ss : List Stage) (bs : List Area) : Type 0 where
  pub long : length m ≡ start size (suc most)
  pub few : length ss ≤ most
  pub fit : areas_fit size bs ≡ true
  pub raw : Agrees K size 0 f None m
  pub right : Right K size 0 f m ss bs

-- where the whole card is stale, nothing has to be right
all_right : {T R : Type 0} (K : Kind T R) (size : Size) (j : ℕ) (f : Picture T) (m : List R) (ss : List Stage) → Right K size j f m ss (all_stale size ss)
unfolding Right
all_right K size j f m [] = tt
all_right K size j f m (s ∷ ss) = (
  λ x y on out. absurd (out (record { from_left = omega arith; to_right = on.0; from_top = omega arith; to_bottom = on.1 })),
  all_right K size (suc j) (λ x y. cleaned K size s f x y) m ss,
)

-- painting changes nothing outside the rectangle
painted_outside : {T R : Type 0} (K : Kind T R) (size : Size) (r : Rect) (tones : List R) (f : Picture T) → SameOutside size r f (painted K r tones f)
painted_outside K size r tones f x y on out = sym (cond-false (holds r x y) _ (f x y) (false_holds r x y out))

module _ {T R : Type 0} (K : Kind T R) (law : Laws K) (size : Size) (most : ℕ) (f : Picture T) (m : List R) (ss : List Stage) (bs : List Area) (sound : Sound K size most f m ss bs) where
  -- a redone row
  pub sound_task : Sound K size most f (task_made K size (task_from 0 ss bs) m) ss (dropped bs)
  sound_task =
      let few : 0 + length ss ≤ most = omega arith in
      record {
        long = task_length K law size most m sound.long 0 ss bs few sound.fit ∙ sound.long;
        few = sound.few;
        fit = areas_fit_dropped size bs sound.fit;
        raw = agrees_kept K size 0 f None m _ (task_below K law size most m sound.long 0 ss bs few sound.fit 0 (omega arith)) sound.raw;
        right = task_right K law size most m sound.long 0 f ss bs few sound.fit sound.raw sound.right;
      }

  -- a patch
  pub sound_patch : (x y w h : ℕ) (tones : List R) → Fits size (rectangle x y w h) → length tones ≡ w * h → Sound K size most (painted K (rectangle x y w h) tones f) (laid K size x y w tones m h) ss (spread size ss (rectangle x y w h) bs)
  sound_patch x y w h tones fits count =
      let rows : RowsFit size y w (length tones) h = record { down = fits.high; enough = omega (arith, mul_comm w h) } in
      let across : x + w ≤ size.width = fits.wide in
      let r = rectangle x y w h in
      record {
        long = laid_length K law size most x y w tones m across sound.long h rows ∙ sound.long;
        few = sound.few;
        fit = areas_fit_spread size ss r bs fits sound.fit;
        raw = laid_painted K law size most x y w tones m across sound.long h rows f sound.raw;
        right = spread_right K size 0 f (painted K r tones f) m _ ss r bs (laid_above K law size most x y w tones m across sound.long h rows) (painted_outside K size r tones f) sound.right;
      }

  -- another recipe
  pub sound_install : Limits size → (new : List Stage) → length new ≤ most → Sound K size most f m new (all_stale size new)
  sound_install limits new few = record {
    long = sound.long;
    few = few;
    fit = areas_fit_all size new limits;
    raw = sound.raw;
    right = all_right K size 0 f m new;
  }

-- so many redone rows, with their notes
module _ {T R : Type 0} (K : Kind T R) (law : Laws K) (size : Size) (most : ℕ) (f : Picture T) (ss : List Stage) (bs : List Area) (o : Open R) (is : o.notes ≡ record { size = size; most = most; recipe = ss; areas = bs }) (sound : Sound K size most f o.memory ss bs) where
  pub notes_redone : (n : ℕ) → (redone_rows K n o).notes ≡ record { size = size; most = most; recipe = ss; areas = less n bs }
  unfolding redone_rows less
  notes_redone zero = is
  notes_redone (suc n) = ap (λ k. with_areas k (dropped k.areas)) (notes_redone n)

  pub sound_redone : (n : ℕ) → Sound K size most f (redone_rows K n o).memory ss (less n bs)
  unfolding redone_rows less
  sound_redone zero = sound
  sound_redone (suc n) =
      subst (λ (k : Notes). Sound K size most f (task_made K k.size (task k) (redone_rows K n o).memory) ss (dropped (less n bs))) (sym (notes_redone n))
      (sound_task K law size most f (redone_rows K n o).memory ss (less n bs) (sound_redone n))
