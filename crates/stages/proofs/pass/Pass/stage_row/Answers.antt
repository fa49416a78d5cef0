use Rattle.std.proofs.Common.{◌<◌, refl, ◌∙◌, arith}
use Rattle.stages.proofs.Lines.{row_start, window_start, row_step, row_window}
use Rattle.stages.proofs.pass.Pass.stage_row.Goals as goal

pub loop-x-init : goal.loop-x-init
loop-x-init g c =
    let k = g.T.Tone.kind in
    let pass = c.args.self.now in
    let size = pass.frame.size in
    let s = pass.window.now.stage in
    record {
      in_order = c.requires.order;
      range_kept = refl;
      memory = row_start k size s pass.from pass.into c.args.y c.args.left c.args.memory.now;
      weights = window_start k size s pass.from c.args.y c.args.left c.args.memory.now (g.S.Selector.weight c.args.selector.now);
    }

pub loop-x-preserved : goal.loop-x-preserved
loop-x-preserved g c =
    let k = g.T.Tone.kind in
    let pass = c.args.self.now in
    let size = pass.frame.size in
    let s = pass.window.now.stage in
    let m = c.args.memory.now in
    let x = c.loop-x.x in
    let inv = c.loop-x.invariant in
    let done = c.stage_pixel.ensures in
    let across : x < size.width = omega (arith, c.loop-x-test.true, c.requires.columns.1) in
    record {
      in_order = done.in_order;
      range_kept = done.range_kept ∙ inv.range_kept;
      memory = row_step k size s pass.from pass.into m pass.apart c.requires.room c.args.y c.requires.row c.args.left x c.loop-x.auto.x across c.loop-x.memory inv.memory c.stage_pixel.new.memory done.memory;
      weights = λ d. done.weights d ∙ row_window k size s pass.from pass.into m pass.apart c.requires.room c.args.y c.requires.row c.args.left x c.loop-x.auto.x across c.loop-x.memory inv.memory (g.S.Selector.weight c.args.selector.now) d;
    }
