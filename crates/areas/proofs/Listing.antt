-- The list of the areas, and the array that holds it.
use Rattle.std.proofs.Common.{◌≡◌, ℕ, ◌+◌, ◌-◌, ◌<◌, ◌≤◌, true, List, ◌++◌, length, get_or, take, drop, set, Some, None, sym, ap, ◌∙◌, arith}
use lib.Seq.{take-set-lt}
use Rattle.std.proofs.lemmas.List.{length-take-le, get_or-take, length-set, get_or_default}
use Rattle.recipes.specs.declared.recipe.Stage.{Stage}
use Rattle.areas.specs.declared.areas.Areas.{Areas}
use Rattle.areas.specs.declared.rect.Rect.{Rect}
use Rattle.areas.specs.Rects.{Fits, widened, joined, lessened}
use Rattle.areas.specs.Areas.{areas_fit, spread, dropped, lowest}
use Rattle.areas.specs.Listed.{listed}
use Rattle.areas.proofs.Fitting.{fits_true, fits_from, areas_fit_at, areas_fit_set, areas_fit_dropped}
use Rattle.areas.proofs.Walks.{spread_more, spread_fits, Lowest, lowest_is}

pub length_listed : (a : Areas) → length (listed a) ≡ a.count
length_listed a = length-take-le a.count a.areas (omega (arith, a.long, a.few))

pub listed_at : (a : Areas) (i : ℕ) → i < a.count → get_or (listed a) i None ≡ get_or a.areas i None
listed_at a i h = get_or-take a.count a.areas i None h

-- stage k's new area is stored, and the spread goes on from there
module _ (a : Areas) (ss : List Stage) (r w n : Rect) (s : Stage) (i k : ℕ) (at : ◌≡◌ {A = ℕ × Stage} (i, s) (0 + k, get_or ss k s)) (within : k < a.count) (more : k < length ss) (wide : w ≡ widened a.frame.size s r)
    (new : n ≡ joined w (get_or a.areas i None)) (f : Fits a.frame.size r) where
  place : i ≡ k
  place = omega (arith, ap (λ p. p.0) at)

  here : (t : Stage) → n ≡ joined (widened a.frame.size (get_or ss k t) r) (get_or (listed a) k None)
  here t = rw (get_or_default ss k t s more, ← ap (λ p. p.1) at, listed_at a k within, ← place, ← wide) new

  pub stored_fits : Fits a.frame.size n
  stored_fits = spread_fits a.frame.size ss r n (get_or (listed a) k None) k more f (areas_fit_at a.frame.size (listed a) k a.sound) here

  stored_listed : take a.count (set a.areas i (Some n)) ≡ set (listed a) k (Some n)
  stored_listed = rw place (take-set-lt a.count a.areas k (Some n) within)

  pub stored_long : length (set a.areas i (Some n)) ≡ 8
  stored_long = length-set a.areas i (Some n) ∙ a.long

  pub stored_sound : areas_fit a.frame.size (take a.count (set a.areas i (Some n))) ≡ true
  stored_sound = rw stored_listed (areas_fit_set a.frame.size (listed a) k (Some n) a.sound (fits_from a.frame.size n stored_fits))

  pub stored_more :
      take (k + 1) (take a.count (set a.areas i (Some n))) ++ spread a.frame.size (drop (k + 1) ss) n (drop (k + 1) (take a.count (set a.areas i (Some n))))
      ≡ take k (listed a) ++ spread a.frame.size (drop k ss) r (drop k (listed a))
  stored_more = rw stored_listed (spread_more a.frame.size ss r n (listed a) k (omega (arith, length_listed a)) more here)

-- the lowest stage's area, less its top row
module _ (a : Areas) (k : ℕ) (r : Rect) (is : lowest (listed a) ≡ Some (k, r)) where
  stands : Lowest 1 (listed a) k r
  stands = lowest_is 1 (listed a) k r is

  pub drop_from : 1 ≤ k
  drop_from = stands.from

  pub drop_within : k - 1 < a.count
  drop_within = omega (arith, stands.stands, length_listed a)

  pub drop_fits : Fits a.frame.size r
  drop_fits = fits_true a.frame.size r (rw stands.area at (areas_fit_at a.frame.size (listed a) (k - 1) a.sound))

  pub drop_listed : take a.count (set a.areas (k - 1) (lessened r)) ≡ dropped (listed a)
  drop_listed = take-set-lt a.count a.areas (k - 1) (lessened r) drop_within ∙ sym stands.less

  pub drop_long : length (set a.areas (k - 1) (lessened r)) ≡ 8
  drop_long = length-set a.areas (k - 1) (lessened r) ∙ a.long

  pub drop_sound : areas_fit a.frame.size (take a.count (set a.areas (k - 1) (lessened r))) ≡ true
  drop_sound = rw drop_listed (areas_fit_dropped a.frame.size (listed a) a.sound)
