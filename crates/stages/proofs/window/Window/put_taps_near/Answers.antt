use Rattle.std.proofs.Common.{◌<◌, ◌≤◌, get_or, sym, refl, ◌∙◌, subst, arith}
use Rattle.recipes.specs.Placed.{placed}
use Rattle.recipes.specs.Places.{origin}
use Rattle.recipes.proofs.Elements.{order_positive, order_few}
use Rattle.stages.specs.Sites.{seen}
use Rattle.stages.specs.Stages.{window}
use Rattle.stages.specs.declared.taps.Tap.{Tap}
use Rattle.stages.proofs.Cleaning.{takes_one_more}
use Rattle.stages.specs.Taps.{IsNear}
use Rattle.stages.proofs.Nears.{near_tap}
use Rattle.stages.proofs.Turns.{tap_within, tap_item, tap_step}
use Rattle.stages.proofs.Windows.{weight_positive, weight_most}
use Rattle.stages.proofs.window.Window.put_taps_near.Goals as goal

pub loop-tap-init : goal.loop-tap-init
unfolding window
loop-tap-init g c = record { in_order = c.requires.order; range_kept = refl; weights = c.requires.none }

pub put_near-requires-clause-more : goal.put_near-requires-clause-more
put_near-requires-clause-more g c =
    let k = g.T.Tone.kind in
    let site = c.args.site.now in
    let s = c.args.self.now.stage in
    let i = c.loop-tap.tap-index in
    let sel = c.loop-tap.selector in
    let within = tap_within s c.taps-tap-items.result.now i c.taps-tap-items.ensures.taps c.loop-tap-test.true in
    takes_one_more k site.frame.size s (seen site) site.x site.y (g.S.Selector.weight sel) i (g.S.Selector.range sel) within c.loop-tap.invariant.weights

pub put_near-requires-clause-fit : goal.put_near-requires-clause-fit
put_near-requires-clause-fit g c =
    let e = c.args.self.now.stage.element in
    let i = c.loop-tap.tap-index in
    let item = tap_item c.args.self.now.stage c.taps-tap-items.result.now i _ c.taps-tap-items.ensures.taps c.loop-tap-test.true in
    let p = get_or (placed e) i origin in
    subst (λ (t : Tap). (0 < t.weight) × (t.weight ≤ 49)) (sym item) (weight_positive e.order p (order_positive e), weight_most e.order 49 p (omega (arith, order_few e)) (omega arith))

pub put_near-requires-clause-near : goal.put_near-requires-clause-near
put_near-requires-clause-near g c =
    let site = c.args.site.now in
    let s = c.args.self.now.stage in
    let ts = c.taps-tap-items.result.now in
    let is = c.taps-tap-items.ensures.taps in
    let i = c.loop-tap.tap-index in
    let item = tap_item s ts i _ is c.loop-tap-test.true in
    subst (IsNear site.frame.size site.x site.y) (sym item) (near_tap site.frame.size s site.x site.y i (tap_within s ts i is c.loop-tap-test.true) c.requires.flat c.requires.inner)

pub loop-tap-preserved : goal.loop-tap-preserved
loop-tap-preserved g c =
    let k = g.T.Tone.kind in
    let site = c.args.site.now in
    let s = c.args.self.now.stage in
    let ts = c.taps-tap-items.result.now in
    let is = c.taps-tap-items.ensures.taps in
    let i = c.loop-tap.tap-index in
    let inv = c.loop-tap.invariant in
    record {
      in_order = c.put_near.ensures.in_order;
      range_kept = c.put_near.ensures.range_kept ∙ inv.range_kept;
      weights = λ d. tap_step k site.frame.size s (seen site) site.x site.y _ i d _ _ (tap_within s ts i is c.loop-tap-test.true) (tap_item s ts i _ is c.loop-tap-test.true) (inv.weights d) (c.put_near.ensures.weights d);
    }
