use Rattle.std.proofs.Common.{◌≡◌, ℕ}
use Rattle.stages.specs.Rows.{row_made, row_weights}
use Rattle.stages.proofs.pass.Pass.stage_row.Given as goal

abbrev pub invariant-loop-x : goal.invariant-loop-x
invariant-loop-x g l =
    let s = g.S.Selector in
    let k = g.T.Tone.kind in
    let m = l.initial.memory in
    record {
      in_order : s.ordered l.selector;
      range_kept : s.range l.selector ≡ s.range l.initial.selector;
      memory : l.memory ≡ row_made k l.self.frame.size l.self.window.now.stage l.self.from m l.y l.left l.x l.self.into;
      weights : (c : ℕ) → s.weight l.selector c ≡ row_weights k l.self.frame.size l.self.window.now.stage l.self.from m l.y l.left l.x (s.weight l.initial.selector) c;
    }
