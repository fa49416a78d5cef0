-- The worked examples of drafts.
use Rattle.std.proofs.Common.{◌≡◌, ℕ, ◌<◌, ◌≤◌, true, cond, ltb, List, [], length, Some, None, Ok, Err, Result, sym, refl, ap, ◌∙◌, subst, arith, MatchResult}
use Rattle.std.proofs.lemmas.List.{length-take-le}
use Rattle.std.proofs.lemmas.Bool.{le-ltb, lt-ltb}
use Rattle.areas.specs.Areas.{last_area, stale_rows}
use Rattle.calls.specs.Outcomes.{done_unless, drafted}
use Rattle.recipes.specs.Drafts.{steps_of}
use Rattle.recipes.specs.Recipes.{Finished, staged}
use Rattle.recipes.specs.Refusals.{draft_number}
use Rattle.recipes.specs.declared.draft.Draft.{Draft}
use Rattle.recipes.specs.declared.draft.Step.{Step}
use Rattle.recipes.specs.declared.recipe.Recipe.{Recipe}
use Rattle.recipes.specs.declared.refusals.DraftRefusal.{DraftRefusal}
use Rattle.stages.specs.Stages.{made}
use Rattle.cases.specs.Examples.{DraftExamples, NoSteps, IsTooShort}

steps_long : (d : Draft) → length (steps_of d) ≡ d.count
steps_long d = length-take-le d.count d.steps (omega (arith, d.long, d.few))

-- a draft with fewer steps than declared
short_finish : (d : Draft) → length (steps_of d) < d.declared → (r : Result Recipe DraftRefusal) → Finished d r → MatchResult r (λ k. ⊥) (λ e. draft_number e ≡ 19)
short_finish d h (Ok k) f = omega (arith, h, f.0)
short_finish d h (Err e) f = f.1

short : (d : Draft) → length (steps_of d) < d.declared → IsTooShort d
short d h =
    let e : ltb (length (steps_of d)) d.declared ≡ true = lt-ltb (length (steps_of d)) d.declared h in
    record {
      short = (h, refl);
      finish = short_finish d h;
      refused = λ span most. rw e;
      install = λ o. rw e;
    }

-- what holds of every draft without steps that declares none holds of every draft that declares none
every_empty : (P : Draft → Type 0) → ((xs : List Step) (l : length xs ≡ 4) (i : 0 ≤ 4) (w : 0 ≤ 0) → P (record { steps = xs; count = 0; declared = 0; long = l; few = i; within = w })) → (d : Draft) → d.declared ≡ 0 → P d
every_empty P h d q =
    let n : 0 ≡ d.count = omega (arith, q, d.within) in
    let F : ℕ → ℕ → Type 0 = λ c o. (i : c ≤ 4) (w : c ≤ o) → P (record { steps = d.steps; count = c; declared = o; long = d.long; few = i; within = w }) in
    subst (λ c. F c d.declared) n (subst (λ o. F 0 o) (sym q) (h d.steps d.long)) d.few d.within

empty_finish : (d : Draft) → d.declared ≡ 0 → drafted d ≡ [] → (r : Result Recipe DraftRefusal) → Finished d r → MatchResult r (λ k. staged k ≡ []) (λ e. ⊥)
empty_finish d h e (Ok k) f = f.1 ∙ e
empty_finish d h e (Err r) f = omega (arith, h, f.0)

empty : (d : Draft) → d.declared ≡ 0 → NoSteps d
unfolding last_area made stale_rows
empty = every_empty NoSteps (λ xs l i w. record {
  finish = empty_finish (record { steps = xs; count = 0; declared = 0; long = l; few = i; within = w }) refl refl;
  stages = refl;
  install = λ o. ap (λ b. done_unless (cond b (Some 20) None)) (le-ltb o.notes.most 0 (omega arith));
  makes = λ size f x y. refl;
  row = λ w. refl;
  left = λ w. refl;
})

pub draft_examples : DraftExamples
draft_examples =
    record {
      erosion = refl;
      dilation = refl;
      opening = refl;
      closing = refl;
      unknown = refl;
      one_of_two = λ d h l. short d (omega (arith, h, l));
      five = λ d h. short d (omega (arith, h, steps_long d, d.few));
      none = empty;
    }
