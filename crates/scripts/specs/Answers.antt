-- What the result of each call is answered, and how the calls and the unknown lines are counted.
-- Assumes nothing.
use Rattle.std.specs.Prelude.{◌≡◌, ℕ, ◌+◌, ◌%◌, ◌^◌, Ok, Err, Some, None, Option, Result}
use Rattle.calls.specs.declared.refusals.Refusal.{Refusal}
use Rattle.selectors.specs.declared.calls.CallRefusal.{CallRefusal}
use Rattle.selectors.specs.declared.calls.Reply.{Reply}
use Rattle.selectors.specs.declared.calls.Reply.TheVariants as reply
use Rattle.scripts.specs.declared.answers.Answer.{Answer}
use Rattle.scripts.specs.declared.answers.Answer.TheVariants as answer
use Rattle.scripts.specs.declared.answers.Fault.{Fault}
use Rattle.scripts.specs.declared.answers.Fault.TheVariants as fault

-- the answer of any call: its value as said, or its refusal with its kind
abbrev pub answer_of : {A E : Type 0} → (A → Answer) → (E → Fault) → Result A E
    → Result Answer Fault
answer_of said kind (Ok a) = Ok (said a)
answer_of said kind (Err e) = Err (kind e)

-- a call that answers nothing is done
abbrev pub done : Unit {0} → Answer
done _ = answer.Done

-- a call on a card
abbrev pub answer_of_call : Result (Unit {0}) Refusal → Result Answer Fault
answer_of_call = answer_of done fault.Card

-- work: the rows redone
abbrev pub answer_of_work : Result ℕ Refusal → Result Answer Fault
answer_of_work = answer_of answer.Counted fault.Card

-- a call that is refused with this number, if with any: done, or the refusal of its kind that has
-- the number
abbrev pub DoneUnless :
    {E : Type 0} → (E → Fault) → (E → ℕ) → Option ℕ → Result Answer Fault → Type 0
DoneUnless kind number refusal (Ok a) = (refusal ≡ None) × (a ≡ answer.Done)
DoneUnless {E} kind number refusal (Err f) =
    (e : E) × (refusal ≡ Some (number e)) × (f ≡ kind e)

-- a selector's total stands alone, since it is never refused
abbrev pub reply_answer : Reply → Answer
reply_answer reply.Done = answer.Done
reply_answer (reply.Total n) = answer.Number n
reply_answer (reply.Code c) = answer.Counted c

-- a call on a selector
abbrev pub answer_of_selector : Result Reply CallRefusal → Result Answer Fault
answer_of_selector = answer_of reply_answer fault.Selector

-- one more, of 64 bits
abbrev pub one_more : ℕ → ℕ
one_more n = (n + 1) % 2 ^ 64

-- the calls played after a line: one that is not read, whose file is not, or for which there is no
-- memory, is none
abbrev pub played_after : Result Answer Fault → ℕ → ℕ
played_after (Ok a) n = one_more n
played_after (Err fault.Unknown) n = n
played_after (Err fault.Unreadable) n = n
played_after (Err (fault.Memory e)) n = n
played_after (Err (fault.Element e)) n = one_more n
played_after (Err (fault.Draft e)) n = one_more n
played_after (Err (fault.Selector e)) n = one_more n
played_after (Err (fault.Card e)) n = one_more n
played_after (Err (fault.Load e)) n = one_more n
played_after (Err (fault.Tone e)) n = one_more n

-- the refused ones among them
abbrev pub refused_after : Result Answer Fault → ℕ → ℕ
refused_after (Ok a) n = n
refused_after (Err f) n = played_after (Err f) n

-- the lines that were not read, or whose files were not, after a line
abbrev pub unknown_after : Result Answer Fault → ℕ → ℕ
unknown_after (Err fault.Unknown) n = one_more n
unknown_after (Err fault.Unreadable) n = one_more n
unknown_after answered n = n

-- the number of the first of them, after a line of this number
abbrev pub first_after : Result Answer Fault → ℕ → Option ℕ → Option ℕ
first_after (Err fault.Unknown) line None = Some line
first_after (Err fault.Unreadable) line None = Some line
first_after answered line first = first
