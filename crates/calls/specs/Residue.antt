-- What a residue answers and leaves: raw minus finished of a grey card. Assumes nothing.
use Rattle.std.specs.Prelude.{ℕ, zero, suc, ◌+◌, if◌then◌else◌, List, [], ◌∷◌, ◌++◌, length, ℤ, ◌-ℤ◌, Ok, Err, Option, Result, ◌==◌, slice_index}
use Rattle.planes.specs.Sizes.{area, start}
use Rattle.tones.specs.Greys.{greys, grey_value}
use Rattle.calls.specs.Calls.{Notes, Answer}
use Rattle.calls.specs.Calls.Answer.{Done, Refused}
use Rattle.calls.specs.Finished.{of_open, of_settled, answer_given, after_given}

-- the difference of two greys as they lie in memory
abbrev pub difference : ℕ → ℕ → ℤ
difference raw finished = grey_value (greys.counted raw) -ℤ grey_value (greys.counted finished)

-- the differences of n greys from the start of memory and n from a later place on
unfoldable pub differences : List ℕ → ℕ → ℕ → List ℤ
differences m from zero = []
differences m from (suc n) =
    differences m from n ++ difference (slice_index m n) (slice_index m (from + n)) ∷ []

-- each relief is the raw tone minus the finished one
abbrev pub residue_of : Notes → List ℕ → List ℤ
residue_of n m = differences m (start n.size (length n.recipe)) (area n.size)

-- a residue gives these; it is refused without a size (16), on memory of another length (14), into a
-- wrong count of reliefs (18), and with column 0 while any stage is stale (22)
abbrev pub residue_given : Option Notes → List ℕ → ℕ → Result (List ℤ) (Answer ℕ)
residue_given notes m count = of_open notes m (λ n.
    if count == area n.size then of_settled n (Ok (residue_of n m)) else Err (Refused 18))

-- its answer
abbrev pub residue_answer : Option Notes → List ℕ → ℕ → Answer ℕ
residue_answer notes m count = answer_given (λ _. Done) (residue_given notes m count)

-- what stands in the reliefs afterwards
abbrev pub residue_after : Option Notes → List ℕ → List ℤ → List ℤ
residue_after notes m before =
    after_given (λ reliefs. reliefs) before (residue_given notes m (length before))
