-- Equal rows are equal tones.
use Rattle.tones.specs.Reliefs.{reliefs}
use Rattle.tones.specs.ReliefLaws.{same_relief}
use Rattle.tones.proofs.reliefs.ReliefTone.TheImpl.Goals as goal

pub lowered-tells : goal.lowered-tells
lowered-tells c = same_relief c.result (reliefs.lowered c.args.self c.args.amount) c.ensures
