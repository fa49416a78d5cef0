use Rattle.std.proofs.Common.{◌≡◌, ◌*◌, length, Some, refl, ap, rules}
use Rattle.std.specs.Option.{option_map}
use Rattle.areas.specs.Rects.{rect_on}
use Rattle.calls.specs.Calls.Call.{Patch}
use Rattle.calls.specs.Calls.{room}
use Rattle.calls.specs.Outcomes.{patch_refusal, patched}
use Rattle.cards.specs.OpenCards.{notes_of, open_of}
use Rattle.cards.proofs.Answered.{answered, left_alone}
use Rattle.cards.proofs.card.Card.patch.Goals as goal

pub returns-clause-outcome : goal.returns-clause-outcome
returns-clause-outcome g c =
    let k = g.T.Tone.kind in
    let w = g.S.Selector.weight c.args.self.now.selector in
    let m = c.args.memory.now in
    let opened = c.in_ok-opened.opened.now in
    let o = open_of opened w m in
    let tones = c.args.tones.now in
    let refusal = patch_refusal (rect_on opened.areas.frame.size c.args.x c.args.y c.args.width c.args.height) (c.args.width * c.args.height) (length tones) in
    let is : c.args.self.now.opened ≡ Some opened = search rules in
    let long : length m ≡ room (notes_of opened) = search rules in
    answered k _ (notes_of opened) w m (Patch c.args.x c.args.y c.args.width c.args.height tones) _ _ (ap (option_map notes_of) is) long (c.patch.ensures.answer w) (ap Some (c.patch.ensures.notes w)) (λ code. left_alone (λ p. p.weights code) refusal o (patched k c.args.x c.args.y c.args.width c.args.height tones o) refl) (c.patch.ensures.memory w)
