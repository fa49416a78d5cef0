use Rattle.std.proofs.Common.{length, ap, ◌∙◌}
use Rattle.areas.proofs.Walks.{length_spread}
use Rattle.areas.specs.Listed.{listed}
use Rattle.cards.proofs.open_card.OpenCard.spread.Goals as goal

pub invariant_of-self-clause-matched : goal.invariant_of-self-clause-matched
invariant_of-self-clause-matched c =
    let s = c.args.self.now in ap length c.spread.ensures.areas ∙ (length_spread s.areas.frame.size c.stages.result.now c.args.rect (listed s.areas) ∙ s.matched)
