use Rattle.std.proofs.Common.{◌≡◌, ℕ}
use Rattle.selectors.specs.Entries.{weigh}
use Rattle.selectors.specs.Median.{AllPut}
use Rattle.selectors.proofs.median.weighted_median.Given as goal

abbrev pub invariant-loop-index : goal.invariant-loop-index
invariant-loop-index g l =
    let s = g.S.Selector in
    s.ordered l.selector
    × (s.range l.selector ≡ s.range l.initial.selector)
    × ((c : ℕ) → s.weight l.selector c ≡ weigh l.entries l.index-counter c)
    × AllPut l.entries (s.range l.initial.selector) l.index-counter
