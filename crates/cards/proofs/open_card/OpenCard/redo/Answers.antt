use Rattle.std.proofs.Common.{◌≡◌, ◌-◌, length, get_or, sym, ap, ◌∙◌, rules}
use Rattle.areas.proofs.Walks.{length_dropped, lowest_nothing}
use Rattle.areas.specs.Listed.{listed}
use Rattle.calls.specs.Outcomes.{task_made, task_weights, with_areas}
use Rattle.planes.specs.Sizes.{start}
use Rattle.cards.specs.OpenCards.{notes_of}
use Rattle.cards.proofs.Tasks.{task_none, made_by, weighed_by}
use Rattle.cards.proofs.open_card.OpenCard.redo.Goals as goal

pub returns-in_default-clause-notes : goal.returns-in_default-clause-notes
returns-in_default-clause-notes g c =
    let s = c.args.self.now in ap (with_areas (notes_of s)) (sym (lowest_nothing 1 (listed s.areas) (sym c.in_default.ensures.answer)))

pub returns-in_default-clause-memory : goal.returns-in_default-clause-memory
returns-in_default-clause-memory g c =
    let s = c.args.self.now in sym (ap (λ t. task_made g.T.Tone.kind s.areas.frame.size t c.args.memory.now) (task_none 0 1 (notes_of s).recipe (notes_of s).areas (sym c.in_default.ensures.answer)))

pub returns-in_default-clause-weights : goal.returns-in_default-clause-weights
returns-in_default-clause-weights g c =
    let s = c.args.self.now in λ d. sym (ap (λ t. task_weights g.T.Tone.kind s.areas.frame.size t c.args.memory.now (g.S.Selector.weight c.args.selector.now) d) (task_none 0 1 (notes_of s).recipe (notes_of s).areas (sym c.in_default.ensures.answer)))

pub invariant_of-self-clause-matched : goal.invariant_of-self-clause-matched
invariant_of-self-clause-matched g c =
    let s = c.args.self.now in ap length c.drop_row.ensures.areas ∙ (length_dropped (listed s.areas) ∙ s.matched)

pub returns : goal.returns
returns g c =
    let s = c.args.self.now in
    let k = c.in-Some.stage in
    let kind = g.T.Tone.kind in
    let notes = notes_of s in
    let m = c.args.memory.now in
    let stage = c.index-stages-stage.result in
    let pass = c.new-pass.result in
    let due = sym c.in-Some.ensures.answer in
    let at : stage ≡ get_or notes.recipe (k - 1) stage = cc in
    let sized = ap (λ f. f.size) c.new-pass.ensures.frame ∙ c.frame-frame.ensures in
    let same = ap (λ w. w.stage) c.new-pass.ensures.window ∙ c.of-window.ensures in
    let reads = c.new-pass.ensures.planes.0 ∙ (c.start-from.ensures.value ∙ ap (λ z. start z (k - 1)) c.frame-frame.ensures) in
    let writes = c.new-pass.ensures.planes.1 ∙ (c.start-into.ensures.value ∙ ap (λ z. start z k) c.frame-frame.ensures) in
    record {
      notes = search rules;
      memory = made_by kind notes k c.in-Some.rect stage s.matched due at pass.frame.size pass.window.now.stage pass.from sized same reads m pass.into _ writes c.stage_row.ensures.memory;
      weights = λ d. weighed_by kind notes k c.in-Some.rect stage s.matched due at pass.frame.size pass.window.now.stage pass.from sized same reads m (g.S.Selector.weight c.args.selector.now) d _ (c.stage_row.ensures.weights d);
      range_kept = search rules;
      in_order = search rules;
    }
