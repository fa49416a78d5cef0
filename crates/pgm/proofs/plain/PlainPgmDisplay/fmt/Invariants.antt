use Rattle.std.proofs.Common.{take}
use Rattle.std.specs.Fmt.{HasWritten, IsPlainFormatter}
use Rattle.pgm.specs.Plain.{plain}
use Rattle.pgm.proofs.plain.PlainPgmDisplay.fmt.Given as goal

-- what is written is the picture with the tones so far
abbrev pub invariant-loop-tone : goal.invariant-loop-tone
invariant-loop-tone g l =
    IsPlainFormatter l.fn.f
    → HasWritten g.W.Write.write_str_gives l.fn.f
    (plain (l.fn.self.0).width (l.fn.self.0).height (take l.tone-index l.samples)) l.f
