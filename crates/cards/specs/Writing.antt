-- What a write of the finished card answers and leaves. Assumes nothing.
use Rattle.std.specs.Prelude.{◌≡◌, ℕ, if◌then◌else◌, List, length, take, drop, Ok, Err, Option, Result, nat_le}
use Rattle.planes.specs.Sizes.{area, start}
use Rattle.pgm.specs.Raw.{raw_file, over}
use Rattle.calls.specs.Calls.{Notes, State, Answer}
use Rattle.calls.specs.Calls.Answer.{Number, Refused}
use Rattle.calls.specs.Finished.{of_open, of_settled, answer_given, after_given}

-- the greys of the finished plane: that of the last stage, plane 0 without stages
abbrev pub finished_greys : Notes → List ℕ → List ℕ
finished_greys n m = take (area n.size) (drop (start n.size (length n.recipe)) m)

-- the finished card as a file
abbrev pub file_of : Notes → List ℕ → List ℕ
file_of n m = raw_file n.size.width n.size.height (finished_greys n m)

-- a write gives that file; it is refused without a size (16), on memory of another length (14), with
-- column 0 while any stage is stale (22), and where fewer bytes are lent than the file has (24)
abbrev pub file_given : Option Notes → List ℕ → ℕ → Result (List ℕ) (Answer ℕ)
file_given notes m lent = of_open notes m (λ n. of_settled n
    (if nat_le (length (file_of n m)) lent then Ok (file_of n m) else Err (Refused 24)))

-- its answer: how many bytes the file has
abbrev pub write_answer : Option Notes → List ℕ → ℕ → Answer ℕ
write_answer notes m lent = answer_given (λ file. Number (length file)) (file_given notes m lent)

-- what stands in the lent bytes afterwards: the file in the first of them
abbrev pub write_after : Option Notes → List ℕ → List ℕ → List ℕ
write_after notes m before =
    after_given (λ file. over file before) before (file_given notes m (length before))

-- a write on a card in a state has that answer, and leaves the lent bytes so
pub record Writes (at : State ℕ) (before : List ℕ) (a : Answer ℕ) (after : List ℕ) : Type 0 where
  pub answer : a ≡ write_answer at.notes at.memory (length before)
  pub bytes : after ≡ write_after at.notes at.memory before
