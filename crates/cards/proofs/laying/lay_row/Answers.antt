use Rattle.std.proofs.Common.{◌<◌, length, set, sym, ap, ◌∙◌, arith}
use Rattle.std.proofs.lemmas.List.Edits.{map_over_more}
use Rattle.cards.proofs.laying.lay_row.Goals as goal

pub loop-place-preserved : goal.loop-place-preserved
loop-place-preserved g c =
    let k = g.T.Tone.kind in
    let i = c.loop-place.place-index in
    let within : i < length c.args.tones.now = omega (arith, ap length c.copy_from_slice.ensures.after) in
    let row = c.row.ensures ∙ ap k.row (c.of_row.ensures ∙ ap k.counted (sym c.place-item.is)) in
    ap (set c.loop-place.places i) row ∙ map_over_more (λ r. k.row (k.counted r)) c.args.tones.now c.loop-place.places i c.place-item.result within c.loop-place.invariant c.place-item.is
