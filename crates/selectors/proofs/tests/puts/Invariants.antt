use Rattle.selectors.proofs.tests.puts.Given as goal

abbrev pub invariant-loop-code : goal.invariant-loop-code
invariant-loop-code g l = g.S.Selector.ordered l.selector
