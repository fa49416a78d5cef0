-- The worked examples of calls on a card.
use Rattle.std.proofs.Common.{ℕ, pos, refl}
use Rattle.areas.specs.Areas.{dropped, last_area, lowest_from, spread, stale_rows}
use Rattle.calls.specs.Outcomes.{laid, redone_rows, task_from}
use Rattle.calls.specs.Residue.{differences}
use Rattle.recipes.specs.Reaches.{reach}
use Rattle.recipes.specs.declared.draft.Draft.{Draft}
use Rattle.recipes.specs.declared.draft.Letter.TheVariants as letter
use Rattle.selectors.specs.Bag.{below}
use Rattle.stages.specs.Planes.{line}
use Rattle.stages.specs.Stages.{cleaned, made, ranked_code, window}
use Rattle.cases.specs.Examples.{OneStageExamples, ResidueExamples, TwoStageExamples}
use Rattle.cases.specs.Samples.{ECross, OCross, DRaising, origin_of}
use Rattle.cases.proofs.OneStep.{every_cross, every_one_step}

pub one_stage_examples : (d : Draft) → ECross d → (w : ℕ → ℕ) (t : ℕ) → OneStageExamples d w t
unfolding below cleaned dropped laid last_area line lowest_from ranked_code reach redone_rows spread stale_rows task_from window
one_stage_examples = every_cross 69 letter.Erosion (λ d. (w : ℕ → ℕ) (t : ℕ) → OneStageExamples d w t) refl (λ a b w t. record {
  opens = refl;
  installs = refl;
  works = refl;
  notes = refl;
  memory = refl;
  clean = refl;
  patch = refl;
  left = refl;
  due = refl;
  stale_pixel = refl;
  met = refl;
  number = refl;
  fresh_pixel = refl;
})

pub two_stage_examples : (d : Draft) → OCross d → (w : ℕ → ℕ) (t : ℕ) → TwoStageExamples d w t
unfolding below cleaned dropped laid line lowest_from ranked_code reach redone_rows spread stale_rows task_from window
two_stage_examples = every_cross 79 letter.Opening (λ d. (w : ℕ → ℕ) (t : ℕ) → TwoStageExamples d w t) refl (λ a b w t. record {
  opens = refl;
  installs = refl;
  works = refl;
  notes = refl;
  planes = refl;
  clean = refl;
  left = refl;
  due = refl;
  idle = refl;
  still_left = refl;
  some = refl;
  due_next = refl;
  enough = refl;
  none_left = refl;
  none_due = refl;
  memory = refl;
})

pub residue_examples : (d : Draft) → DRaising d → (w : ℕ → ℕ) → ResidueExamples d w
unfolding below cleaned differences made ranked_code stale_rows window
residue_examples = every_one_step 68 letter.Dilation (origin_of (pos 5)) 1 (λ d. (w : ℕ → ℕ) → ResidueExamples d w) refl (λ a b w. record { raises = refl; leaves = refl; done = refl; reliefs_after = λ z. refl })
