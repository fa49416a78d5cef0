use Rattle.std.proofs.Common.{◌<◌, ◌∙◌, arith}
use Rattle.filters.proofs.Lines.{rows_more, window_more}
use Rattle.filters.proofs.whole.stage_rows.Goals as goal

pub loop-y-preserved : goal.loop-y-preserved
loop-y-preserved g c =
    let k = g.T.Tone.kind in
    let pass = c.args.pass.now in
    let size = pass.frame.size in
    let s = pass.window.now.stage in
    let inv = c.loop-y.invariant in
    let done = c.stage_row.ensures in
    let down : c.loop-y.y < size.height = omega arith in
    record {
      in_order = done.in_order;
      range_kept = done.range_kept ∙ inv.range_kept;
      memory = rows_more k size s pass.from pass.into c.args.memory.now pass.apart c.requires.room c.loop-y.y down c.loop-y.memory inv.memory c.stage_row.new.memory done.memory;
      weights = λ h d. window_more k size s pass.from pass.into c.args.memory.now pass.apart c.requires.room c.loop-y.y down c.loop-y.memory inv.memory pass.frame.within.wide (g.S.Selector.weight c.loop-y.selector) (g.S.Selector.weight c.stage_row.new.selector d) d (done.weights d);
    }
