use Rattle.std.proofs.Common.{◌≡◌, ◌+◌, ◌-◌, take, drop, set, ap, ◌∙◌, arith}
use Rattle.planes.specs.Sizes.{area}
use Rattle.stages.specs.Planes.{picture}
use Rattle.stages.proofs.Lines.{part_same}
use Rattle.stages.proofs.Pictures.{bag_same, cleaned_same}
use Rattle.stages.proofs.pass.Pass.stage_pixel.Goals as goal

pub returns-clause-memory : goal.returns-clause-memory
returns-clause-memory g c =
    let k = g.T.Tone.kind in
    let pass = c.args.self.now in
    let size = pass.frame.size in
    let m = c.args.memory.now in
    let site = c.new-site.ensures in
    let n = pass.from + c.area.result - pass.from in
    let long : n ≡ area size = omega (arith, c.area.ensures.value) in
    let same = part_same k size pass.from n m long in
    let tone = simp (site.frame, site.plane, site.place.0, site.place.1) at c.pixel-tone.ensures.answer in
    ap (λ i. set m (pass.into + i) c.row.result) c.cell.ensures.value
    ∙ ap (set m _) (c.row.ensures ∙ ap k.row (tone ∙ cleaned_same k size pass.window.now.stage (picture k size 0 (take n (drop pass.from m))) (picture k size pass.from m) same c.args.x c.args.y))

pub returns-clause-weights : goal.returns-clause-weights
returns-clause-weights g c d =
    let k = g.T.Tone.kind in
    let pass = c.args.self.now in
    let size = pass.frame.size in
    let m = c.args.memory.now in
    let site = c.new-site.ensures in
    let n = pass.from + c.area.result - pass.from in
    let long : n ≡ area size = omega (arith, c.area.ensures.value) in
    let same = part_same k size pass.from n m long in
    let weight = simp (site.frame, site.plane, site.place.0, site.place.1) at c.pixel-tone.ensures.weights d in
    weight ∙ bag_same k size pass.window.now.stage (picture k size 0 (take n (drop pass.from m))) (picture k size pass.from m) same c.args.x c.args.y d
