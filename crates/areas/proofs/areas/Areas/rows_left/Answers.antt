use Rattle.std.proofs.Common.{◌≤◌, ltb, sym, ap, ◌∙◌, arith}
use Rattle.std.specs.List.{sum_by}
use Rattle.areas.specs.declared.areas.Areas.{Areas}
use Rattle.areas.specs.Areas.{rows, stale_rows}
use Rattle.areas.specs.Listed.{listed}
use Rattle.areas.proofs.Dropping.{rows_some}
use Rattle.areas.proofs.Listing.{length_listed}
use Rattle.areas.proofs.Nesting.{arising}
use Rattle.areas.proofs.Walks.{rows_summed, rows_bounded}
use Rattle.areas.proofs.areas.Areas.rows_left.Goals as goal

few : (a : Areas) → stale_rows (listed a) ≤ 2048
few a = omega (arith, rows_bounded a.frame.size (listed a) a.frame.within.not_too_high a.sound, length_listed a, a.few)

pub rows_of-requires : goal.rows_of-requires
rows_of-requires c = omega (arith, ap (sum_by rows) c.listed.ensures, rows_summed (listed c.args.self.now), few c.args.self.now)

pub returns : goal.returns
returns c =
    let a = c.args.self.now in
    let is = c.rows_of.ensures ∙ ap (sum_by rows) c.listed.ensures ∙ sym (rows_summed (listed a)) in
    record { answer = is; bound = omega (arith, few a); some = ap (ltb 0) is ∙ rows_some a.frame.size (listed a) a.sound; arising = arising a.frame.size (listed a) a.frame.within }
