use Rattle.std.proofs.Common.{◌≡◌, length, Some, subst, ap, ◌∙◌, rules}
use Rattle.planes.specs.declared.size.Size.{Size}
use Rattle.planes.specs.Sizes.{Limits}
use Rattle.calls.specs.Calls.{room}
use Rattle.calls.specs.Opening.{fresh}
use Rattle.filters.proofs.Laws.{laws_hold}
use Rattle.calls.proofs.Promises.{keeps_promise}
use Rattle.cards.specs.OpenCards.{notes_of}
use Rattle.cards.proofs.card.Card.open.Goals as goal

pub returns-clause-promise : goal.returns-clause-promise
returns-clause-promise g c =
    let size : Size = record { width = c.args.width; height = c.args.height } in
    let sized : c.in_ok-frame.frame.size ≡ size = search rules in
    let made : notes_of c.fresh-opened.result ≡ fresh c.args.width c.args.height c.args.stages = c.fresh-opened.ensures ∙ ap (λ (z : Size). fresh z.width z.height c.args.stages) sized in
    let long : length c.args.memory.now ≡ room (notes_of c.fresh-opened.result) = search rules in
    keeps_promise g.T.Tone.kind g.met.T.Tone.lawful size c.args.stages _ (record {
      notes = ap Some made;
      limits = subst Limits sized c.in_ok-frame.frame.within;
      memory = long ∙ ap room made;
    })

pub returns-in_err-frame-clause-laws : goal.returns-in_err-frame-clause-laws
returns-in_err-frame-clause-laws g c = laws_hold g.T.Tone.kind g.met.T.Tone.lawful

pub returns-then-not-contains-clause-laws : goal.returns-then-not-contains-clause-laws
returns-then-not-contains-clause-laws g c = laws_hold g.T.Tone.kind g.met.T.Tone.lawful

pub returns-in_err-fits-clause-laws : goal.returns-in_err-fits-clause-laws
returns-in_err-fits-clause-laws g c = laws_hold g.T.Tone.kind g.met.T.Tone.lawful

pub returns-then-range-count-clause-laws : goal.returns-then-range-count-clause-laws
returns-then-range-count-clause-laws g c = laws_hold g.T.Tone.kind g.met.T.Tone.lawful

pub returns-clause-laws : goal.returns-clause-laws
returns-clause-laws g c = laws_hold g.T.Tone.kind g.met.T.Tone.lawful
