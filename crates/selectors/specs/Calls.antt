-- What put and select answer, and the bag that a put leaves, over a bag w and a range R. Assumes
-- nothing.
use Rattle.std.specs.Prelude.{◌≡◌, ℕ, List, ◌+◌, ◌++◌, ◌<◌, ◌≤◌, if◌then◌else◌, ◌&&◌, ◌||◌, ◌⊎◌, Some, None, Option, Ok, Err, Result, ◌==◌, codes, decimal, nat_le, nat_lt}
use Rattle.selectors.specs.declared.limits.TheConstants.{MOST_CODES, MOST_WEIGHT}
use Rattle.selectors.specs.declared.refusals.PutRefusal.{PutRefusal}
use Rattle.selectors.specs.declared.refusals.PutRefusal.TheVariants.{Unfit, Full, Heavy}
use Rattle.selectors.specs.declared.refusals.SelectRefusal.{SelectRefusal}
use Rattle.selectors.specs.declared.refusals.SelectRefusal.TheVariants.{Unranked}
use Rattle.selectors.specs.Bag.{below, held, Ranked, added}

-- the number of each refusal; no two have the same
abbrev pub put_number : PutRefusal → ℕ
put_number Unfit = 2
put_number Full = 3
put_number Heavy = 4

abbrev pub select_number : SelectRefusal → ℕ
select_number Unranked = 5

-- the cause of each refusal in words
abbrev pub put_cause : PutRefusal → List ℕ
put_cause Unfit = codes "the weight is 0, or the code is not below the range"
put_cause Full = codes "64 codes have weight, and this one has none"
put_cause Heavy = codes "the total would pass 65,535"

abbrev pub select_cause : SelectRefusal → List ℕ
select_cause Unranked = codes "the rank is 0 or above the total"

-- a refusal as it is printed: its number, a colon and its cause
abbrev pub refusal_text : ℕ → List ℕ → List ℕ
refusal_text number cause = decimal number ++ codes ": " ++ cause

abbrev pub put_text : PutRefusal → List ℕ
put_text e = refusal_text (put_number e) (put_cause e)

abbrev pub select_text : SelectRefusal → List ℕ
select_text e = refusal_text (select_number e) (select_cause e)

-- a put of a on the code c is refused where a is 0 or c is not below the range (2), then where 64
-- codes have weight and c has none (3), then where the total would pass 65,535 (4)
abbrev pub put_refusal : (ℕ → ℕ) → ℕ → ℕ → ℕ → Option ℕ
put_refusal w R c a =
    if a == 0 || nat_le R c then Some 2
    else (if nat_le MOST_CODES (held w R) && w c == 0 then Some 3
    else (if nat_lt MOST_WEIGHT (below w R + a) then Some 4 else None))

-- the number by which a put is refused, and none where it is taken
abbrev pub put_refused : Result (Unit {0}) PutRefusal → Option ℕ
put_refused (Ok _) = None
put_refused (Err e) = Some (put_number e)

-- the bag after a put of a on the code c: one code heavier, or the same bag where it is refused
abbrev pub put_bag : Option ℕ → (ℕ → ℕ) → ℕ → ℕ → ℕ → ℕ
put_bag None w c a = added w c a
put_bag (Some n) w c a = w

-- select answers the ranked code, and refuses just the rank 0 and a rank above the total, by 5
abbrev pub Selected : (ℕ → ℕ) → ℕ → ℕ → Result ℕ SelectRefusal → Type 0
Selected w R r (Ok c) = (0 < r) × (r ≤ below w R) × Ranked w r c
Selected w R r (Err e) = (select_number e ≡ 5) × ((r ≡ 0) ⊎ (below w R < r))
