use Rattle.cards.proofs.Tasks.{stood}
use Rattle.cards.proofs.open_card.OpenCard.lowest.Goals as goal

pub returns-clause-stands : goal.returns-clause-stands
returns-clause-stands c = stood c.args.self.now c.lowest.result c.lowest.ensures.answer
