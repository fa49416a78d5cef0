use Rattle.std.proofs.Common.{◌≡◌, sym, subst, arith}
use Rattle.areas.specs.declared.rect.Rect.{Rect}
use Rattle.areas.specs.Rects.{Holds, InReach, Exactly, widened}
use Rattle.areas.proofs.Spreading.{widened_exact}
use Rattle.areas.proofs.rect.Rect.widened.Goals as goal

pub returns-clause-exact : goal.returns-clause-exact
returns-clause-exact c = λ f.
    let P : Rect → Type 0 = λ q. Exactly q (InReach c.args.size c.args.stage.now (Holds c.args.self)) in
    let is : record { left = c.saturating_sub.result; top = c.saturating_sub-2.result; right = c.min.result; bottom = c.min-2.result } ≡ widened c.args.size c.args.stage.now c.args.self = grind arith in
    subst P (sym is) (widened_exact c.args.size c.args.stage.now c.args.self f)
