-- What the words of a line say. Assumes nothing.
use Rattle.std.specs.Prelude.{◌≡◌, ℕ, ◌^◌, ◌<◌, List, Some, None, codes, Option}
use Rattle.std.specs.Str.Parse.{IsNumeral, digits_value, without_leading_plus}
use Rattle.selectors.specs.declared.calls.SelectorCall.TheVariants.{Put, Total, Select, Empty}
use Rattle.selectors.specs.Played.{name_of}
use Rattle.rank.specs.declared.command.Command.{Command}
use Rattle.rank.specs.declared.command.Command.TheVariants.{Choose, Ask}

-- a word writes the number n, below 2 ^ 32, in digits
abbrev pub Writes : List ℕ → ℕ → Type 0
Writes w n =
    let digits = without_leading_plus w in
    IsNumeral 10 digits × (digits_value 10 digits < 2 ^ 32) × (n ≡ digits_value 10 digits)

-- the word is there and writes n
abbrev pub Gives : Option (List ℕ) → ℕ → Type 0
Gives (Some w) n = Writes w n
Gives None n = ⊥

-- a line's first word and the two after it say a command
abbrev pub Says : List ℕ → Option (List ℕ) → Option (List ℕ) → Command → Type 0
Says w a b (Choose k) = (w ≡ codes "selector") × (a ≡ Some (name_of k)) × (b ≡ None)
Says w a b (Ask (Put c x)) = (w ≡ codes "put") × Gives a c × Gives b x
Says w a b (Ask Total) = (w ≡ codes "total") × (a ≡ None) × (b ≡ None)
Says w a b (Ask (Select r)) = (w ≡ codes "select") × Gives a r × (b ≡ None)
Says w a b (Ask Empty) = (w ≡ codes "empty") × (a ≡ None) × (b ≡ None)

-- the command that is read is one that the words say
abbrev pub Reads : List ℕ → Option (List ℕ) → Option (List ℕ) → Option Command → Type 0
Reads w a b (Some c) = Says w a b c
Reads w a b None = (c : Command) → Says w a b c → ⊥
