-- The weighted median of a list of entries, put one by one into an empty selector of range R.
-- Assumes nothing.
use Rattle.std.specs.Prelude.{◌≡◌, ℕ, suc, ◌*◌, ◌<◌, ◌≤◌, List, ◌++◌, length, Some, None, Option, Ok, Err, Result, codes, decimal, slice_index_or}
use Rattle.selectors.specs.declared.entries.Entry.{Entry}
use Rattle.selectors.specs.declared.median.MedianRefusal.{MedianRefusal}
use Rattle.selectors.specs.declared.median.MedianRefusal.TheVariants.{Refused, NoEntries}
use Rattle.selectors.specs.Bag.{below}
use Rattle.selectors.specs.Calls.{put_refusal, put_number, put_text, refusal_text}
use Rattle.selectors.specs.Entries.{blank, bag, weigh}

-- the number of each refusal
abbrev pub median_number : MedianRefusal → ℕ
median_number (Refused i e) = put_number e
median_number NoEntries = 5

-- a refusal as it is printed: that of the put, with the entry's index, or its number and its cause
abbrev pub median_text : MedianRefusal → List ℕ
median_text (Refused i e) = put_text e ++ codes " (entry " ++ decimal i ++ codes ")"
median_text NoEntries = refusal_text (median_number NoEntries) (codes "there are no entries")

-- the number that refuses the put of the i-th entry, after those before it
abbrev pub put_at : List Entry → ℕ → ℕ → Option ℕ
put_at es R i =
    let e = slice_index_or es i blank in
    put_refusal (weigh es i) R e.code e.weight

-- the first n entries are taken
abbrev pub AllPut : List Entry → ℕ → ℕ → Type 0
AllPut es R n = (i : ℕ) → i < n → put_at es R i ≡ None

-- the codes below c weigh less than half of the total, and those up to c at least half
abbrev pub Halves : (ℕ → ℕ) → ℕ → ℕ → Type 0
Halves w R c = (2 * below w c < below w R) × (below w R ≤ 2 * below w (suc c))

-- the median of the entries where all are taken and there is one, or what is refused
abbrev pub Median : List Entry → ℕ → Result ℕ MedianRefusal → Type 0
Median es R (Ok c) = AllPut es R (length es) × Halves (bag es) R c
Median es R (Err (Refused i e)) =
    (i < length es) × AllPut es R i × (put_at es R i ≡ Some (median_number (Refused i e)))
Median es R (Err NoEntries) = (median_number NoEntries ≡ 5) × (length es ≡ 0)

-- how many entries were put
abbrev pub put_count : List Entry → Result ℕ MedianRefusal → ℕ
put_count es (Ok c) = length es
put_count es (Err (Refused i e)) = i
put_count es (Err NoEntries) = 0
