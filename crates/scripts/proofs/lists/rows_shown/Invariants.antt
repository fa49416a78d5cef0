use Rattle.std.proofs.Common.{◌≡◌, take, string_bytes}
use Rattle.scripts.specs.Rows.{rows_text}
use Rattle.scripts.proofs.lists.rows_shown.Given as goal

-- the text shows the rows so far
abbrev pub invariant-loop-row : goal.invariant-loop-row
invariant-loop-row g l = string_bytes l.text ≡ rows_text g.T.Rows.scripted.shown (take l.row-index l.rows)
