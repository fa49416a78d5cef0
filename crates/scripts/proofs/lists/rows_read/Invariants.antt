use Rattle.std.proofs.Common.{◌≡◌, ◌++◌}
use Rattle.scripts.specs.Words.{Rest}
use Rattle.scripts.specs.Rows.{RowsWritten}
use Rattle.scripts.proofs.lists.rows_read.Given as goal

-- the chunks have the words of a row; the words before those that are left write the rows so far
abbrev pub invariant-loop-part : goal.invariant-loop-part
invariant-loop-part g l = (l.part-iterator.size ≡ g.T.Rows.scripted.count) × (before : Rest) × (l.words ≡ before ++ l.part-iterator.rest.now) × RowsWritten g.T.Rows.scripted.written before l.rows.items
