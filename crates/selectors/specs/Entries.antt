-- The bag that a list of entries stands for. Assumes nothing.
use Rattle.std.specs.Prelude.{◌≡◌, ℕ, ◌/◌, ◌^◌, ◌<◌, ◌≤◌, if◌then◌else◌, List, length, slice_index_or, Ok, Err, Result, ◌==◌, ◌≢◌}
use Rattle.selectors.specs.declared.entries.Entry.{Entry}
use Rattle.selectors.specs.declared.limits.TheConstants.{WIDE_RANGE}
use Rattle.selectors.specs.Bag.{below}

-- stands where a list has no entry
abbrev pub blank : Entry
blank = record { code = 0; weight = 0 }

-- what an entry adds to the weight of the code c
abbrev pub share : Entry → ℕ → ℕ
share e c = if e.code == c then e.weight else 0

-- what the first n entries add to the weight of the code c
abbrev pub weigh : List Entry → ℕ → ℕ → ℕ
weigh es n c = below (λ i. share (slice_index_or es i blank) c) n

-- what all entries make each code weigh
abbrev pub bag : List Entry → ℕ → ℕ
bag es = weigh es (length es)

-- the first n entries have weight
abbrev pub Weighty : List Entry → ℕ → Type 0
Weighty es n = (i : ℕ) → i < n → 0 < (slice_index_or es i blank).weight

-- the codes of the first n entries rise
abbrev pub Rising : List Entry → ℕ → Type 0
Rising es n =
    (i j : ℕ) → i < j → j < n
    → (slice_index_or es i blank).code < (slice_index_or es j blank).code

-- an entry's weight where its code begins with the bits p, down to the bit k
abbrev pub under : Entry → ℕ → ℕ → ℕ
under e k p = if e.code / 2 ^ k == p then e.weight else 0

-- the place of an entry with the code c, or a place where one may come, since there is none
abbrev pub Found : List Entry → ℕ → Result ℕ ℕ → Type 0
Found es c (Ok i) = (i < length es) × ((slice_index_or es i blank).code ≡ c)
Found es c (Err at) =
    (at ≤ length es) × ((i : ℕ) → i < length es → (slice_index_or es i blank).code ≢ c)

-- the place of an entry with the code c, or the place between smaller and larger codes where it
-- belongs
abbrev pub Seat : List Entry → ℕ → Result ℕ ℕ → Type 0
Seat es c (Ok i) = (i < length es) × ((slice_index_or es i blank).code ≡ c)
Seat es c (Err at) =
    (at ≤ length es)
    × ((i : ℕ) → i < at → (slice_index_or es i blank).code < c)
    × ((i : ℕ) → at ≤ i → i < length es → c < (slice_index_or es i blank).code)

-- an entry that a put may take: it has weight, and its code is below the range
abbrev pub Fit : Entry → Type 0
Fit e = (0 < e.weight) × (e.code < WIDE_RANGE)
