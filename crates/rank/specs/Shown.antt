-- The line that shows an answer. Assumes nothing.
use Rattle.std.specs.Prelude.{ℕ, List, ◌++◌, Ok, Err, Result, codes}
use Rattle.std.specs.Fmt.{decimal}
use Rattle.selectors.specs.Played.{call_number}
use Rattle.selectors.specs.declared.calls.CallRefusal.{CallRefusal}
use Rattle.selectors.specs.declared.calls.Reply.{Reply}
use Rattle.selectors.specs.declared.calls.Reply.TheVariants.{Done, Total, Code}

-- `ok`, the number, or the number of the refusal
abbrev pub answer_line : Result Reply CallRefusal → List ℕ
answer_line (Ok Done) = codes "ok"
answer_line (Ok (Total n)) = decimal n
answer_line (Ok (Code n)) = decimal n
answer_line (Err e) = codes "refused " ++ decimal (call_number e)
