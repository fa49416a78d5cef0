use Rattle.std.proofs.Common.{◌≡◌, take}
use Rattle.calls.specs.Residue.{differences}
use Rattle.cards.proofs.residues.subtract.Given as goal

abbrev pub invariant-loop-i : goal.invariant-loop-i
invariant-loop-i l = take l.i l.reliefs ≡ differences l.memory l.from l.i
