-- What a call answers on a selector with the bag w and the range R, and the bag that it leaves.
-- Assumes nothing.
use Rattle.std.specs.Prelude.{◌≡◌, ℕ, List, Some, None, Option, Ok, Err, codes, Result}
use Rattle.selectors.specs.declared.calls.SelectorKind.{SelectorKind}
use Rattle.selectors.specs.declared.calls.SelectorKind.TheVariants.{Gate, Histogram, Ladder}
use Rattle.selectors.specs.declared.calls.SelectorCall.{SelectorCall}
use Rattle.selectors.specs.declared.calls.SelectorCall.TheVariants.{Put, Total, Select, Empty}
use Rattle.selectors.specs.declared.calls.Reply.{Reply}
use Rattle.selectors.specs.declared.calls.Reply.TheVariants as reply
use Rattle.selectors.specs.declared.calls.CallRefusal.{CallRefusal}
use Rattle.selectors.specs.declared.calls.CallRefusal.TheVariants as refused
use Rattle.selectors.specs.declared.refusals.SelectRefusal.{SelectRefusal}
use Rattle.selectors.specs.Bag.{below}
use Rattle.selectors.specs.Calls.{put_bag, put_number, put_refusal, put_text, Selected, select_number, select_text}

-- the word that names a kind
abbrev pub name_of : SelectorKind → List ℕ
name_of Gate = codes "gate"
name_of Histogram = codes "histogram"
name_of Ladder = codes "ladder"

-- the number of each refusal
abbrev pub call_number : CallRefusal → ℕ
call_number (refused.Put e) = put_number e
call_number (refused.Select e) = select_number e

-- a refusal as it is printed
abbrev pub call_text : CallRefusal → List ℕ
call_text (refused.Put e) = put_text e
call_text (refused.Select e) = select_text e

-- a call's result, with the number of the refusal in place of its cause
abbrev pub numbered : Result Reply CallRefusal → Result Reply ℕ
numbered (Ok x) = Ok x
numbered (Err e) = Err (call_number e)

-- done, or refused by a number
abbrev pub done_unless : Option ℕ → Result Reply ℕ
done_unless None = Ok reply.Done
done_unless (Some n) = Err n

-- the code that a select answers, or its refusal's number
abbrev pub code_or_number : Result ℕ SelectRefusal → Result Reply ℕ
code_or_number (Ok c) = Ok (reply.Code c)
code_or_number (Err e) = Err (select_number e)

-- the answer to each call
abbrev pub Answered : (ℕ → ℕ) → ℕ → SelectorCall → Result Reply CallRefusal → Type 0
Answered w R (Put c a) r = numbered r ≡ done_unless (put_refusal w R c a)
Answered w R Total r = numbered r ≡ Ok (reply.Total (below w R))
Answered w R (Select k) r =
    (x : Result ℕ SelectRefusal) × Selected w R k x × (numbered r ≡ code_or_number x)
Answered w R Empty r = numbered r ≡ Ok reply.Done

-- the bag after each call
abbrev pub bag_after : (ℕ → ℕ) → ℕ → SelectorCall → ℕ → ℕ
bag_after w R (Put c a) = put_bag (put_refusal w R c a) w c a
bag_after w R Total = w
bag_after w R (Select k) = w
bag_after w R Empty = λ _. 0
