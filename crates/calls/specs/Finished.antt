-- What a call that reads a whole card asks before it gives something. Assumes nothing.
use Rattle.std.specs.Prelude.{if◌then◌else◌, List, length, Some, None, Ok, Err, Option, Result, ◌==◌}
use Rattle.areas.specs.Areas.{stale_rows}
use Rattle.calls.specs.Calls.{Notes, Answer, room}
use Rattle.calls.specs.Calls.Answer.{Refused, Met}

module _ {A R : Type 0} where
  -- it is refused without a size (16), then on memory of another length (14)
  abbrev pub of_open : Option Notes → List R → (Notes → Result A (Answer R)) → Result A (Answer R)
  of_open None m gives = Err (Refused 16)
  of_open (Some n) m gives = if length m == room n then gives n else Err (Refused 14)

  -- it is refused with column 0 while any stage is stale (22)
  abbrev pub of_settled : Notes → Result A (Answer R) → Result A (Answer R)
  of_settled n given = if stale_rows n.areas == 0 then given else Err (Met 0)

  -- its answer: what is said of what it gives, or the refusal
  abbrev pub answer_given : (A → Answer R) → Result A (Answer R) → Answer R
  answer_given said (Ok a) = said a
  answer_given said (Err refusal) = refusal

-- what lent places hold afterwards: what it gives makes of them, or what they held
abbrev pub after_given : {A L E : Type 0} → (A → L) → L → Result A E → L
after_given made before (Ok a) = made a
after_given made before (Err refusal) = before
