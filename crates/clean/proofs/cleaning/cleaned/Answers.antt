use Rattle.std.proofs.Common.{◌∙◌}
use Rattle.std.proofs.lemmas.Result.{IfOk-weaker}
use Rattle.clean.specs.Cleaning.{HandsOut, Shades, eroded_picture, size, state}
use Rattle.clean.proofs.Crosses.{eroded_alike}
use Rattle.clean.proofs.Running.{load_is_ok, install_is_ok, work_is_ok, hands_out}
use Rattle.clean.proofs.cleaning.cleaned.Goals as goal

pub unwrap-requires : goal.unwrap-requires
unwrap-requires c = load_is_ok _ _ _ _ _ c.requires _ c.opened-card.ensures.promise _ _ c.load.ensures.outcome

pub unwrap-requires-2 : goal.unwrap-requires-2
unwrap-requires-2 c =
    install_is_ok _ _ _ _ _ c.requires _ c.opened-card.ensures.promise _ _ c.erosion.ensures.steps c.erosion.ensures.declared c.cross.ensures.places
    _ _ c.load.ensures.outcome _ _ c.install.ensures.outcome

pub unwrap-requires-3 : goal.unwrap-requires-3
unwrap-requires-3 c =
    work_is_ok _ _ _ _ _ c.requires _ c.opened-card.ensures.promise _ _ c.erosion.ensures.steps c.erosion.ensures.declared c.cross.ensures.places
    _ _ c.load.ensures.outcome _ _ c.install.ensures.outcome _ _ _ c.work.ensures.outcome

pub rows-requires : goal.rows-requires
rows-requires c =
    let p = c.args.picture in (
      eroded_picture c.cross.result (size p.width p.height) p.samples.now,
      hands_out _ _ _ _ _ c.requires _ c.opened-card.ensures.promise _ _ c.erosion.ensures.steps c.erosion.ensures.declared c.cross.ensures.places
          _ _ c.load.ensures.outcome _ _ c.install.ensures.outcome _ (c.left-left.ensures _) _ _ c.work.ensures.outcome,
    )

pub returns : goal.returns
returns c =
    let p = c.args.picture in
    let s = size p.width p.height in
    let f : Shades = eroded_picture c.cross.result s p.samples.now in
    let handed : HandsOut (state c.work.new.self c.work.new.memory) s f =
    hands_out _ _ _ _ _ c.requires _ c.opened-card.ensures.promise _ _ c.erosion.ensures.steps c.erosion.ensures.declared c.cross.ensures.places
    _ _ c.load.ensures.outcome _ _ c.install.ensures.outcome _ (c.left-left.ensures _) _ _ c.work.ensures.outcome in
    IfOk-weaker c.rows.result _ _ (λ v same. record {
      one = c.cross.result;
      is_cross = c.cross.ensures;
      every = λ e cross. same f handed ∙ eroded_alike c.cross.result e c.cross.ensures cross s p.samples.now;
    }) c.rows.ensures
