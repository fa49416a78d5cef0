use Rattle.std.proofs.Common.{rules}
use Rattle.recipes.specs.Shapes.{grid, standard_places}
use Rattle.clean.proofs.cleaning.cross.Goals as goal

pub unwrap-requires-2 : goal.unwrap-requires-2
unfolding standard_places grid
unwrap-requires-2 c = search (rules, c.standard.ensures.places)
