use Rattle.std.proofs.Common.{◌≡◌, ℕ, take}
use Rattle.recipes.specs.Placed.{placed}
use Rattle.stages.specs.Sites.{seen}
use Rattle.stages.specs.Stages.{window}
use Rattle.stages.proofs.window.Window.put_taps_near.Given as goal

abbrev pub invariant-loop-tap : goal.invariant-loop-tap
invariant-loop-tap g l =
    let s = g.S.Selector in
    let k = g.T.Tone.kind in
    let site = l.site in
    record {
      in_order : s.ordered l.selector;
      range_kept : s.range l.selector ≡ s.range l.initial.selector;
      weights : (c : ℕ) → s.weight l.selector c ≡ window k site.frame.size l.self.stage (seen site) site.x site.y (take l.tap-index (placed l.self.stage.element)) c;
    }
