use Rattle.std.proofs.Common.{◌≡◌, length, Some, refl, ap, rules}
use Rattle.std.specs.Option.{option_map}
use Rattle.calls.specs.Calls.Call.{Install}
use Rattle.calls.specs.Calls.{room}
use Rattle.calls.specs.Outcomes.{drafted, install_refusal, installed}
use Rattle.cards.specs.OpenCards.{notes_of, open_of}
use Rattle.cards.proofs.Answered.{answered, left_alone}
use Rattle.cards.proofs.card.Card.install.Goals as goal

pub returns-clause-outcome : goal.returns-clause-outcome
returns-clause-outcome g c =
    let k = g.T.Tone.kind in
    let w = g.S.Selector.weight c.args.self.now.selector in
    let m = c.args.memory.now in
    let opened = c.in_ok-opened.opened.now in
    let o = open_of opened w m in
    let draft = c.args.draft in
    let refusal = install_refusal k.span opened.most draft in
    let is : c.args.self.now.opened ≡ Some opened = search rules in
    let long : length m ≡ room (notes_of opened) = search rules in
    answered k _ (notes_of opened) w m (Install draft) _ _ (ap (option_map notes_of) is) long (c.install.ensures.answer w m) (ap Some (c.install.ensures.notes w m)) (λ code. left_alone (λ p. p.weights code) refusal o (installed k (drafted draft) o) refl) (left_alone (λ p. p.memory) refusal o (installed k (drafted draft) o) refl)
