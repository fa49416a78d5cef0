use Rattle.std.proofs.Common.{◌≤◌, ◌∙◌, arith}
use Rattle.stages.specs.Sites.{seen}
use Rattle.stages.proofs.Cleaning.{rank_selected, selected_cleaned}
use Rattle.stages.proofs.window.Window.pixel.Goals as goal

pub unwrap-requires : goal.unwrap-requires
unwrap-requires g c =
    let k = g.T.Tone.kind in
    let site = c.args.site.now in
    let sel = c.fill.new.selector in
    let codes : k.count ≤ g.S.Selector.range sel = omega (arith, c.fill.ensures.range_kept, c.requires.codes) in
    rank_selected k g.met.T.Tone.lawful site.frame.size c.args.self.now.stage (seen site) site.x site.y site.column site.row (g.S.Selector.weight sel) (g.S.Selector.range sel) c.total.result c.rank-rank.result c.fill.ensures.weights codes c.total.ensures.answer c.rank-rank.ensures c.select.result c.select.ensures.answer

pub returns-clause-answer : goal.returns-clause-answer
returns-clause-answer g c =
    let k = g.T.Tone.kind in
    let site = c.args.site.now in
    let sel = c.fill.new.selector in
    let codes : k.count ≤ g.S.Selector.range sel = omega (arith, c.fill.ensures.range_kept, c.requires.codes) in
    c.of_code.ensures ∙ selected_cleaned k g.met.T.Tone.lawful site.frame.size c.args.self.now.stage (seen site) site.x site.y site.column site.row (g.S.Selector.weight sel) (g.S.Selector.range sel) c.total.result c.rank-rank.result c.fill.ensures.weights codes c.total.ensures.answer c.rank-rank.ensures c.select.result c.unwrap.result c.select.ensures.answer c.unwrap.ensures
