-- The lowest stage with an area as a task, and where its planes lie.
use Rattle.std.proofs.Common.{◌≡◌, ℕ, suc, ◌+◌, ◌-◌, ◌≤◌, List, [], ◌∷◌, length, get_or, Some, None, Option, IfSome, sym, refl, ap, ◌∙◌, le_refl, mul-le-mul_right, suc-mul, arith}
use Rattle.planes.specs.declared.size.Size.{Size}
use Rattle.planes.specs.Sizes.{area, start}
use Rattle.recipes.specs.declared.recipe.Stage.{Stage}
use Rattle.areas.specs.declared.rect.Rect.{Rect}
use Rattle.areas.specs.Areas.{Area, lowest, lowest_from}
use Rattle.areas.proofs.Walks.{lowest_is}
use Rattle.stages.specs.Rows.{row_made, row_weights}
use Rattle.tones.specs.Kind.{Kind}
use Rattle.recipes.specs.Recipes.{staged}
use Rattle.areas.specs.Listed.{listed}
use Rattle.areas.proofs.Listing.{drop_from, drop_within, drop_fits, length_listed}
use Rattle.cards.specs.declared.open_card.OpenCard.{OpenCard}
use Rattle.cards.specs.OpenCards.{Stands}
use Rattle.calls.specs.Calls.{Notes}
use Rattle.calls.specs.Outcomes.{task, task_from, task_made, task_weights}

-- the stage with the number k reads plane k - 1
pub task_some : (j : ℕ) (ss : List Stage) (bs : List Area) (k : ℕ) (r : Rect) (s : Stage) → length bs ≡ length ss → lowest_from (j + 1) bs ≡ Some (k, r) → task_from j ss bs ≡ Some (record { stage = get_or ss (k - 1 - j) s; below = k - 1; area = r })
unfolding lowest_from task_from
task_some j [] [] k r s h e = let z : ◌≡◌ {A = ℕ} 0 1 = cc in absurd (omega arith)
task_some j [] (b ∷ bs) k r s h e = absurd (omega arith)
task_some j (t ∷ ss) [] k r s h e = absurd (omega arith)
task_some j (t ∷ ss) (None ∷ bs) k r s h e =
    let n : j + 1 + 1 ≡ suc j + 1 = omega arith in
    let again = task_some (suc j) ss bs k r s (omega arith) (ap (λ i. lowest_from i bs) (sym n) ∙ e) in
    let later = (lowest_is (j + 1 + 1) bs k r e).from in
    let next : k - 1 - j ≡ suc (k - 1 - suc j) = omega (arith, later) in
    rw next again
task_some j (t ∷ ss) (Some q ∷ bs) k r s h e =
    let both : ◌≡◌ {A = ℕ × Rect} (j + 1, q) (k, r) = cc in
    let here : j + 1 ≡ k = ap (λ p. p.0) both in
    let same : q ≡ r = ap (λ p. p.1) both in
    let first : k - 1 - j ≡ 0 = omega arith in
    let below : j ≡ k - 1 = omega arith in
    rw (first, same) (ap (λ n. Some (record { stage = t; below = n; area = r })) below)

pub task_none : (j i : ℕ) (ss : List Stage) (bs : List Area) → lowest_from i bs ≡ None → task_from j ss bs ≡ None
unfolding lowest_from task_from
task_none j i [] bs e = refl
task_none j i (t ∷ ss) [] e = refl
task_none j i (t ∷ ss) (None ∷ bs) e = task_none (suc j) (i + 1) ss bs e
task_none j i (t ∷ ss) (Some q ∷ bs) e = let z : ◌≡◌ {A = ℕ} 0 1 = cc in absurd (omega arith)

-- a plane up to the last one ends within the memory
pub plane_within : (size : Size) (j most : ℕ) → j ≤ most → start size j + area size ≤ start size (suc most)
plane_within size j most h =
    let more : suc j ≤ suc most = omega arith in
    let e = mul-le-mul_right (area size) more in omega (arith, e, suc-mul j (area size))

-- what a stage makes by its number is what its task makes
module _ {T R : Type 0} (K : Kind T R) (n : Notes) (k : ℕ) (r : Rect) (s : Stage) (matched : length n.areas ≡ length n.recipe) (is : lowest n.areas ≡ Some (k, r)) (stage : s ≡ get_or n.recipe (k - 1) s) where
  the_task : task n ≡ Some (record { stage = s; below = k - 1; area = r })
  the_task =
      let e : k - 1 - 0 ≡ k - 1 = omega arith in
      task_some 0 n.recipe n.areas k r s matched is
      ∙ (ap (λ i. Some (record { stage = get_or n.recipe i s; below = k - 1; area = r })) e
      ∙ ap (λ t. Some (record { stage = t; below = k - 1; area = r })) (sym stage))

  after : suc (k - 1) ≡ k
  after = let h = (lowest_is 1 n.areas k r is).from in omega (arith, h)

  -- by a pass from the plane below into its own
  module _ (size : Size) (t : Stage) (from : ℕ) (sized : size ≡ n.size) (same : t ≡ s) (reads : from ≡ start n.size (k - 1)) (m : List R) where
    pub made_by : (into : ℕ) (new : List R) → into ≡ start n.size k → new ≡ row_made K size t from m r.top r.left r.right into → new ≡ task_made K n.size (task n) m
    made_by into new writes h =
        h
        ∙ (ap (λ z. row_made K z t from m r.top r.left r.right into) sized
        ∙ (ap (λ i. row_made K n.size t i m r.top r.left r.right into) reads
        ∙ (ap (λ u. row_made K n.size u (start n.size (k - 1)) m r.top r.left r.right into) same
        ∙ (ap (λ i. row_made K n.size s (start n.size (k - 1)) m r.top r.left r.right i) (writes ∙ ap (start n.size) (sym after))
        ∙ ap (λ u. task_made K n.size u m) (sym the_task)))))

    pub weighed_by : (before : ℕ → ℕ) (c new : ℕ) → new ≡ row_weights K size t from m r.top r.left r.right before c → new ≡ task_weights K n.size (task n) m before c
    weighed_by before c new h =
        h
        ∙ (ap (λ z. row_weights K z t from m r.top r.left r.right before c) sized
        ∙ (ap (λ i. row_weights K n.size t i m r.top r.left r.right before c) reads
        ∙ (ap (λ u. row_weights K n.size u (start n.size (k - 1)) m r.top r.left r.right before c) same
        ∙ ap (λ u. task_weights K n.size u m before c) (sym the_task))))

-- the lowest stage with an area, of an open card
pub stands : (s : OpenCard) (k : ℕ) (r : Rect) → lowest (listed s.areas) ≡ Some (k, r) → Stands s k r
stands s k r is =
    let least : 1 ≤ k = drop_from s.areas k r is in
    let most : k ≤ length (staged s.recipe) = omega (arith, least, drop_within s.areas k r is, length_listed s.areas, s.matched) in
    let next : suc (k - 1) ≡ k = omega (arith, least) in
    record {
      from = least;
      to = most;
      fits = drop_fits s.areas k r is;
      apart = rw next at (plane_within s.areas.frame.size (k - 1) (k - 1) (le_refl (k - 1)));
      within = plane_within s.areas.frame.size k s.most (omega (arith, most, s.fits));
    }

pub stood : (s : OpenCard) (o : Option (ℕ × Rect)) → o ≡ lowest (listed s.areas) → IfSome o (λ p. Stands s p.0 p.1)
stood s None is = tt
stood s (Some p) is = stands s p.0 p.1 (sym is)
