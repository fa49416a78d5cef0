-- The worked examples of what the rules say after a history.
use Rattle.std.proofs.Common.{◌≡◌, ℕ, zero, suc, ◌+◌, ◌<◌, [], ◌∷◌, get_or, refl, arith, lit<, lit≤}
use Rattle.areas.specs.Areas.{dropped, last_area, lowest_from, spread, stale_rows}
use Rattle.calls.specs.History.{in_force, less, raw, stale}
use Rattle.recipes.specs.Reaches.{reach}
use Rattle.recipes.specs.declared.draft.Draft.{Draft}
use Rattle.recipes.specs.declared.draft.Letter.TheVariants as letter
use Rattle.selectors.specs.Bag.{below}
use Rattle.stages.specs.Planes.{blank}
use Rattle.stages.specs.Stages.{cleaned, made, ranked_code, window}
use Rattle.tones.specs.Greys.{greys}
use Rattle.cases.specs.Examples.{OneStageRules, TwoStageRules, history}
use Rattle.cases.specs.Samples.{ECross, OCross, card, three}
use Rattle.cases.proofs.OneStep.{every_cross}

-- the pixel (2, 0) of what E makes of the raw card with any tone in its corner
shown : (d : Draft) → ECross d → (t i : ℕ) → i < 1 → greys.counted (get_or (30 ∷ []) i (blank greys)) ≡ made greys three (in_force (history d 3 t)) (raw greys card (history d 3 t)) (2 + i) 0
unfolding below cleaned in_force made ranked_code raw window
shown d o t zero l =
    every_cross 69 letter.Erosion (λ d. greys.counted 30 ≡ made greys three (in_force (history d 3 t)) (raw greys card (history d 3 t)) 2 0) refl (λ a b. refl) d o
shown d o t (suc i) l = absurd (omega arith)

pub one_stage_rules : (d : Draft) → ECross d → (t : ℕ) → OneStageRules d t
unfolding dropped in_force last_area less lowest_from reach spread stale stale_rows
one_stage_rules d o t =
    every_cross 69 letter.Erosion (λ d. ECross d → OneStageRules d t) refl
    (λ a b o. record {
      left = refl;
      due = refl;
      stale_pixel = record {
        from = lit≤ tt;
        up_to = lit< tt;
        stale_there = record { from_left = lit≤ tt; to_right = lit< tt; from_top = lit≤ tt; to_bottom = lit< tt };
        first = λ d l m s. omega arith;
      };
      fresh_pixel = (record { none = λ c l m s. omega arith }, record { long = refl; tones = shown _ o t });
    })
    d o o

pub two_stage_rules : (d : Draft) → OCross d → (t : ℕ) → TwoStageRules d t
unfolding dropped in_force less reach spread stale stale_rows
two_stage_rules = every_cross 79 letter.Opening (λ d. (t : ℕ) → TwoStageRules d t) refl (λ a b t. record { left = refl; idle = refl; enough = refl; none_left = refl })
