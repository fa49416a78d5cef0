-- Equal rows are equal tones.
use Rattle.tones.specs.Greys.{greys}
use Rattle.tones.specs.GreyLaws.{same_grey}
use Rattle.tones.proofs.greys.GreyTone.TheImpl.Goals as goal

pub lowered-tells : goal.lowered-tells
lowered-tells c = same_grey c.result (greys.lowered c.args.self c.args.amount) c.ensures
