use Rattle.std.proofs.Common.{◌++◌}
use Rattle.scripts.specs.Words.{Rest}
use Rattle.rehearse.specs.Cuts.{CutInto}
use Rattle.rehearse.proofs.script.words_of.Given as goal

-- the words so far, before those of what is left, are those of the text
abbrev pub invariant-loop-word : goal.invariant-loop-word
invariant-loop-word l = (more : Rest) → CutInto l.word-iterator.rest.now more → CutInto l.text (l.words.items ++ more)
