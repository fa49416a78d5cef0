use Rattle.std.proofs.Common.{◌≡◌, ℕ}
use Rattle.calls.specs.Outcomes.{redone_rows}
use Rattle.cards.specs.OpenCards.{notes_of, open_of}
use Rattle.cards.proofs.open_card.OpenCard.work.Given as goal

abbrev pub invariant-loop-done : goal.invariant-loop-done
invariant-loop-done g l =
    let s = g.S.Selector in
    let k = g.T.Tone.kind in
    let from = open_of l.initial.self (s.weight l.initial.selector) l.initial.memory in
    record {
      in_order : s.ordered l.selector;
      range_kept : s.range l.selector ≡ s.range l.initial.selector;
      notes : notes_of l.self ≡ (redone_rows k l._done from).notes;
      memory : l.memory ≡ (redone_rows k l._done from).memory;
      weights : (c : ℕ) → s.weight l.selector c ≡ (redone_rows k l._done from).weights c;
      idle : l._done ≡ 0 → (l.self ≡ l.initial.self) × (l.selector ≡ l.initial.selector);
    }
