-- The worked examples of elements that are not alike on all sides.
use Rattle.std.proofs.Common.{ℕ, replicate, refl, lit≤}
use Rattle.areas.specs.Areas.{dropped, last_area, lowest_from, spread, stale_rows}
use Rattle.calls.specs.Outcomes.{laid, redone_rows, task_from}
use Rattle.recipes.specs.Lawful.{apart, lawful}
use Rattle.recipes.specs.Places.{origin}
use Rattle.recipes.specs.Reaches.{reach}
use Rattle.recipes.specs.declared.draft.Letter.TheVariants as letter
use Rattle.selectors.specs.Bag.{below}
use Rattle.stages.specs.Planes.{line}
use Rattle.stages.specs.Stages.{cleaned, made, ranked_code, window}
use Rattle.cases.specs.Samples.{Each, Makes, left_places, right_places, skew_places, uneven_places}
use Rattle.cases.specs.Sides.{SideExamples, SkewAreas, SkewCard, SkewExamples}
use Rattle.cases.proofs.OneStep.{ElementParts, each}

right_parts : ElementParts right_places 1
unfolding lawful apart
right_parts = record { rest = replicate 47 origin; long = refl; within = lit≤ tt; sound = refl }

left_parts : ElementParts left_places 1
unfolding lawful apart
left_parts = record { rest = replicate 47 origin; long = refl; within = lit≤ tt; sound = refl }

uneven_parts : ElementParts uneven_places 1
unfolding lawful apart
uneven_parts = record { rest = replicate 46 origin; long = refl; within = lit≤ tt; sound = refl }

skew_parts : ElementParts skew_places 1
unfolding lawful apart
skew_parts = record { rest = replicate 47 origin; long = refl; within = lit≤ tt; sound = refl }

pub side_examples : SideExamples
unfolding made cleaned ranked_code window below
side_examples = record {
  right_dilation = each 68 letter.Dilation refl right_parts refl (Makes _) (λ a b. refl);
  right_erosion = each 69 letter.Erosion refl right_parts refl (Makes _) (λ a b. refl);
  left_dilation = each 68 letter.Dilation refl left_parts refl (Makes _) (λ a b. refl);
  left_erosion = each 69 letter.Erosion refl left_parts refl (Makes _) (λ a b. refl);
  uneven_erosion = each 69 letter.Erosion refl uneven_parts refl (Makes _) (λ a b. refl);
  uneven_dilation = each 68 letter.Dilation refl uneven_parts refl (Makes _) (λ a b. refl);
}

skew_cards : Each 69 skew_places 1 (λ d. (w : ℕ → ℕ) (t : ℕ) → SkewCard d w t)
unfolding below cleaned dropped laid last_area line lowest_from ranked_code reach redone_rows spread stale_rows task_from window
skew_cards = each 69 letter.Erosion refl skew_parts refl (λ d. (w : ℕ → ℕ) (t : ℕ) → SkewCard d w t) (λ a b w t. record {
  installs = refl;
  works = refl;
  notes = refl;
  planes = refl;
  area = refl;
  left = refl;
  due = refl;
  first_row = refl;
  last_row = refl;
  last_column = refl;
  first_column = refl;
  row_above = refl;
  enough = refl;
  row_2 = refl;
  row_3 = refl;
})

skew_areas : Each 79 skew_places 1 SkewAreas
unfolding reach spread
skew_areas = each 79 letter.Opening refl skew_parts refl SkewAreas (λ a b. record { both = refl })

pub skew_examples : SkewExamples
skew_examples = record { one_stage = skew_cards; two_stages = skew_areas }
