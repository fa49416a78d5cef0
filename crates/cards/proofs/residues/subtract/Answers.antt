use Rattle.std.proofs.Common.{◌<◌, length, sym, arith, w16, SFits, rules}
use Rattle.std.proofs.lemmas.Int.{to_z-of_z}
use Rattle.cards.proofs.Subtracting.{differences_none, differences_more}
use Rattle.cards.proofs.residues.subtract.Goals as goal

pub loop-i-init : goal.loop-i-init
loop-i-init c = sym (differences_none c.args.memory.now c.args.from)

pub loop-i-preserved : goal.loop-i-preserved
loop-i-preserved c =
    let within : c.loop-i.i < length c.loop-i.reliefs = omega arith in
    let fits : SFits w16 c.difference.result = search rules in
    let step = differences_more c.args.memory.now c.args.from c.loop-i.i c.loop-i.reliefs c.difference.result within c.loop-i.invariant c.difference.ensures in
    simp to_z-of_z step
