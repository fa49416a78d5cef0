use Rattle.std.proofs.Common.{sym, refl, ap, ◌∙◌, arith}
use Rattle.calls.specs.Calls.{room}
use Rattle.cards.specs.OpenCards.{notes_of, open_of}
use Rattle.cards.proofs.Progress.{redone_none, redone_room, notes_more, memory_more, weights_more}
use Rattle.cards.proofs.open_card.OpenCard.work.Goals as goal

pub loop-done-init : goal.loop-done-init
loop-done-init g c =
    let from = open_of c.args.self.now (g.S.Selector.weight c.args.selector.now) c.args.memory.now in
    let start = sym (redone_none g.T.Tone.kind from) in
    record { in_order = c.requires.order; range_kept = refl; notes = ap (λ o. o.notes) start; memory = ap (λ o. o.memory) start; weights = λ d. ap (λ o. o.weights d) start; idle = λ _. (refl, refl) }

pub redo-requires-clause-room : goal.redo-requires-clause-room
redo-requires-clause-room g c =
    let from = open_of c.args.self.now (g.S.Selector.weight c.args.selector.now) c.args.memory.now in
    omega (arith, c.loop-done.auto.memory, c.requires.room, ap room c.loop-done.invariant.notes, redone_room g.T.Tone.kind c.loop-done._done from)

pub loop-done-preserved : goal.loop-done-preserved
loop-done-preserved g c =
    let k = g.T.Tone.kind in
    let from = open_of c.args.self.now (g.S.Selector.weight c.args.selector.now) c.args.memory.now in
    let was = c.loop-done.invariant in
    let i = c.loop-done._done in
    let n = notes_of c.loop-done.self in
    let m = c.loop-done.memory in
    let e = c.redo.ensures in
    record {
      in_order = e.in_order;
      range_kept = e.range_kept ∙ was.range_kept;
      notes = notes_more k i from n m was.notes was.memory _ e.notes;
      memory = memory_more k i from n m was.notes was.memory _ e.memory;
      weights = λ d. weights_more k i from n m was.notes was.memory (g.S.Selector.weight c.loop-done.selector) d _ (was.weights d) (e.weights d);
      idle = λ none. absurd (omega arith);
    }
