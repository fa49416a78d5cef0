use Rattle.std.proofs.Common.{◌≡◌, ◌-◌, false, length, drop}
use Rattle.pgm.specs.Machine.{runs, final}
use Rattle.pgm.specs.declared.machine.State.TheVariants.{Mark}
use Rattle.pgm.proofs.reader.Reader.header.Given as goal

-- the bytes that are left lead to where the whole file leads
abbrev pub invariant-loop-at : goal.invariant-loop-at
invariant-loop-at l =
    (l.self.file.now ≡ l.initial.self.file.now)
    × (runs l.state l.self.next (drop l.self.next l.self.file.now) ≡ runs Mark 0 l.initial.self.file.now)
    × (final l.state ≡ false)

abbrev pub decreases-loop-at : goal.decreases-loop-at
decreases-loop-at l = length l.initial.self.file.now - l.self.next
