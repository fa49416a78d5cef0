use Rattle.std.proofs.Common.{◌≡◌, ◌-◌, true, length, take, set, sym, refl, ap, ◌∙◌, subst, arith}
use Rattle.areas.specs.Areas.{areas_fit, next_of, stale_rows}
use Rattle.areas.specs.Meanings.{Leaves}
use Rattle.areas.specs.Listed.{listed}
use Rattle.areas.proofs.Dropping.{leaves, rows_dropped}
use Rattle.areas.proofs.Walks.{lowest_nothing}
use Rattle.areas.proofs.Listing.{drop_from, drop_within, drop_fits, drop_listed, drop_long, drop_sound}
use Rattle.areas.proofs.areas.Areas.drop_row.Goals as goal

pub lessened-requires : goal.lessened-requires
lessened-requires c = (drop_fits c.args.self.now c.in-Some.stage c.in-Some.rect (sym c.lowest.ensures.answer ∙ c.in-Some.is)).rows

pub overflow_sub-stage : goal.overflow_sub-stage
overflow_sub-stage c = drop_from c.args.self.now c.in-Some.stage c.in-Some.rect (sym c.lowest.ensures.answer ∙ c.in-Some.is)

pub bounds-self-stage : goal.bounds-self-stage
bounds-self-stage c =
    let a = c.args.self.now in
    omega (arith, drop_within a c.in-Some.stage c.in-Some.rect (sym c.lowest.ensures.answer ∙ c.in-Some.is), a.few)

pub offset_bounds-self-stage : goal.offset_bounds-self-stage
offset_bounds-self-stage c =
    let a = c.args.self.now in
    omega (arith, drop_within a c.in-Some.stage c.in-Some.rect (sym c.lowest.ensures.answer ∙ c.in-Some.is), a.few)

pub invariant_of-self : goal.invariant_of-self
invariant_of-self c =
    let a = c.args.self.now in
    let is = sym c.lowest.ensures.answer ∙ c.in-Some.is in
    let k = c.in-Some.stage in
    let r = c.in-Some.rect in
    let long : length (set a.areas (k - 1) c.lessened.result) ≡ 8 = rw c.lessened.ensures (drop_long a k r is) in
    let sound : areas_fit a.frame.size (take a.count (set a.areas (k - 1) c.lessened.result)) ≡ true = rw c.lessened.ensures (drop_sound a k r is) in
    record { long = long; few = a.few; sound = sound }

pub returns-in-Some : goal.returns-in-Some
returns-in-Some c =
    let a = c.args.self.now in
    let is = sym c.lowest.ensures.answer ∙ c.in-Some.is in
    let out = ap (λ l. take a.count (set a.areas (c.in-Some.stage - 1) l)) c.lessened.ensures ∙ drop_listed a c.in-Some.stage c.in-Some.rect is in
    record { frame = refl; areas = out; meaning = subst (Leaves (listed a) (next_of (listed a))) (sym out) (leaves (listed a)); rows = ap stale_rows out ∙ rows_dropped a.frame.size (listed a) a.sound }

pub returns-in_default : goal.returns-in_default
returns-in_default c =
    let a = c.args.self.now in
    let is = sym (lowest_nothing 1 (listed a) (sym c.lowest.ensures.answer ∙ c.in_default.is)) in
    record { frame = refl; areas = is; meaning = subst (Leaves (listed a) (next_of (listed a))) (sym is) (leaves (listed a)); rows = ap stale_rows is ∙ rows_dropped a.frame.size (listed a) a.sound }
