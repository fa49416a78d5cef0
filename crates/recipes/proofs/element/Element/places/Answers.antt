use Rattle.recipes.proofs.Elements.{place_limited}
use Rattle.recipes.proofs.element.Element.places.Goals as goal

pub returns-clause-limits : goal.returns-clause-limits
returns-clause-limits c = place_limited c.args.self.now
