use Rattle.std.proofs.Common.{◌≡◌, ℕ, ◌-◌, ◌<◌}
use Rattle.stages.specs.Planes.{picture}
use Rattle.stages.specs.Stages.{bag}
use Rattle.filters.specs.Restaging.{rows_made}
use Rattle.filters.proofs.whole.stage_rows.Given as goal

abbrev pub invariant-loop-y : goal.invariant-loop-y
invariant-loop-y g l =
    let s = g.S.Selector in
    let k = g.T.Tone.kind in
    let pass = l.pass in
    let size = pass.frame.size in
    let stage = pass.window.now.stage in
    let m = l.initial.memory in
    record {
      in_order : s.ordered l.selector;
      range_kept : s.range l.selector ≡ s.range l.initial.selector;
      memory : l.memory ≡ rows_made k size stage pass.from pass.into m l.y;
      weights : 0 < l.y → (c : ℕ) → s.weight l.selector c ≡ bag k size stage (picture k size pass.from m) (size.width - 1) (l.y - 1) c;
    }
