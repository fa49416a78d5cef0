use Rattle.std.proofs.Common.{◌≡◌, sym, subst, rules}
use Rattle.areas.specs.Areas.{next_of}
use Rattle.areas.specs.Listed.{listed}
use Rattle.areas.specs.Meanings.{NextIs}
use Rattle.areas.proofs.Dropping.{next_is}
use Rattle.areas.proofs.areas.Areas.next.Goals as goal

pub returns-clause-meaning : goal.returns-clause-meaning
returns-clause-meaning c =
    let a = c.args.self.now in
    let is : c.map.result ≡ next_of (listed a) = search rules in
    subst (NextIs (listed a)) (sym is) (next_is a.frame.size (listed a) a.sound)
