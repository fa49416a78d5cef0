use Rattle.std.proofs.Common.{◌≡◌, ◌+◌, ◌<◌, ◌++◌, ◌∷◌, [], true, length, take, drop, set, Some, sym, ap, ◌∙◌, subst, arith, rules}
use Rattle.std.proofs.lemmas.Iterator.{YieldsList-from_slice, YieldsList-from_take}
use Rattle.std.proofs.lemmas.Iterator.Consumers.{YieldsList-from_enumerate, YieldsList-turn, YieldsList-end}
use Rattle.std.proofs.lemmas.List.{length_push}
use Rattle.areas.specs.Rects.{Fits, Holds}
use Rattle.areas.specs.Areas.{areas_fit, spread}
use Rattle.areas.specs.Listed.{listed}
use Rattle.areas.specs.Meanings.{Spreads}
use Rattle.areas.proofs.Listing.{length_listed, stored_fits, stored_long, stored_sound, stored_more}
use Rattle.areas.proofs.Spreading.{spreads}
use Rattle.areas.proofs.Walks.{numbered_at, numbered_all, spread_end}
use Rattle.areas.proofs.areas.Areas.spread.Goals as goal

pub invariant_of-self : goal.invariant_of-self
invariant_of-self c =
    let a = c.loop-i.self in
    let ss = c.args.stages.now in
    let k = length c.loop-i.yielded in
    let t = YieldsList-turn (YieldsList-from_take c.args.self.now.count (YieldsList-from_enumerate (YieldsList-from_slice ss cc) cc) cc) c.loop-i.yielded _ c.loop-i.yielded_by _ _ (c.in-Some.i, c.in-Some.stage) c.in-Some.is c.next.ensures.steps in
    let at = numbered_at ss c.args.self.now.count 0 k (c.in-Some.i, c.in-Some.stage.now) t.0 in
    let within : k < a.count = omega (arith, at.0, c.loop-i.invariant.3) in
    let n = c.joined-below.result in
    let long : length (set a.areas c.in-Some.i (Some n)) ≡ 8 = stored_long a ss c.loop-i.below c.widened.result n c.in-Some.stage.now c.in-Some.i k (t.1 ∙ at.2) within at.1 c.widened.ensures.answer c.joined-below.ensures.answer c.loop-i.invariant.4 in
    let sound : areas_fit a.frame.size (take a.count (set a.areas c.in-Some.i (Some n))) ≡ true = stored_sound a ss c.loop-i.below c.widened.result n c.in-Some.stage.now c.in-Some.i k (t.1 ∙ at.2) within at.1 c.widened.ensures.answer c.joined-below.ensures.answer c.loop-i.invariant.4 in
    record { long = long; few = a.few; sound = sound }

pub loop-i-preserved : goal.loop-i-preserved
loop-i-preserved c =
    let a = c.loop-i.self in
    let ss = c.args.stages.now in
    let k = length c.loop-i.yielded in
    let t = YieldsList-turn (YieldsList-from_take c.args.self.now.count (YieldsList-from_enumerate (YieldsList-from_slice ss cc) cc) cc) c.loop-i.yielded _ c.loop-i.yielded_by _ _ (c.in-Some.i, c.in-Some.stage) c.in-Some.is c.next.ensures.steps in
    let at = numbered_at ss c.args.self.now.count 0 k (c.in-Some.i, c.in-Some.stage.now) t.0 in
    let within : k < a.count = omega (arith, at.0, c.loop-i.invariant.3) in
    let n = c.joined-below.result in
    let size = a.frame.size in
    let fits : Fits size n = stored_fits a ss c.loop-i.below c.widened.result n c.in-Some.stage.now c.in-Some.i k (t.1 ∙ at.2) within at.1 c.widened.ensures.answer c.joined-below.ensures.answer c.loop-i.invariant.4 in
    let long : length (c.loop-i.yielded ++ (c.in-Some.i, c.in-Some.stage) ∷ []) ≡ k + 1 = length_push c.loop-i.yielded (c.in-Some.i, c.in-Some.stage) in
    let new = take a.count (set a.areas c.in-Some.i (Some n)) in
    let more = stored_more a ss c.loop-i.below c.widened.result n c.in-Some.stage.now c.in-Some.i k (t.1 ∙ at.2) within at.1 c.widened.ensures.answer c.joined-below.ensures.answer c.loop-i.invariant.4 ∙ c.loop-i.invariant.5 in
    (search rules, search rules, search rules, search rules, fits, ap (λ m. take m new ++ spread size (drop m ss) n (drop m new)) long ∙ more)

pub returns : goal.returns
returns c =
    let a = c.loop-i.self in
    let b = c.args.self.now in
    let ss = c.args.stages.now in
    let k = length c.loop-i.yielded in
    let t = YieldsList-end (YieldsList-from_take b.count (YieldsList-from_enumerate (YieldsList-from_slice ss cc) cc) cc) c.loop-i.yielded _ c.loop-i.yielded_by _ _ c.in-None.is c.next.ensures.steps in
    let out : listed a ≡ spread b.frame.size ss c.args.rect (listed b) =
    sym (spread_end a.frame.size ss c.loop-i.below (listed a) k (omega (arith, t.1, numbered_all ss b.count 0, length_listed a, c.loop-i.invariant.3))) ∙ c.loop-i.invariant.5 ∙ ap (λ f. spread f.size ss c.args.rect (listed b)) c.loop-i.invariant.2 in
    record { frame = c.loop-i.invariant.2; areas = out; meaning = subst (Spreads b.frame.size ss (Holds c.args.rect) (listed b)) (sym out) (spreads b.frame.size ss c.args.rect (listed b) c.requires b.sound) }
