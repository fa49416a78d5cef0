use Rattle.filters.proofs.Laws.{laws_hold}
use Rattle.filters.proofs.whole.stage_plane.Goals as goal

pub returns-clause-laws : goal.returns-clause-laws
returns-clause-laws g c = laws_hold g.T.Tone.kind g.met.T.Tone.lawful
