use Rattle.std.proofs.Common.{◌≡◌, ◌⊎◌, sym, subst, rules}
use Rattle.areas.specs.declared.rect.Rect.{Rect}
use Rattle.areas.specs.Rects.{Holds, Smallest, joined}
use Rattle.areas.specs.Areas.{Stale}
use Rattle.areas.proofs.Spreading.{joined_smallest}
use Rattle.areas.proofs.rect.Rect.joined.Goals as goal

pub returns-clause-smallest : goal.returns-clause-smallest
returns-clause-smallest c = λ size f e.
    let r = c.args.self in
    let P : Rect → Type 0 = λ q. Smallest q (λ x y. Holds r x y ⊎ Stale c.args.old x y) in
    let is : c.map_or.result ≡ joined r c.args.old = search rules in
    subst P (sym is) (joined_smallest size r c.args.old f e)
