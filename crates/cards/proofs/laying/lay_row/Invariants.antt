use Rattle.std.proofs.Common.{◌≡◌, ◌++◌, map, take, drop}
use Rattle.cards.proofs.laying.lay_row.Given as goal

abbrev pub invariant-loop-place : goal.invariant-loop-place
invariant-loop-place g l =
    let k = g.T.Tone.kind in
    l.places ≡ map (λ r. k.row (k.counted r)) (take l.place-index l.tones) ++ drop l.place-index l.tones
