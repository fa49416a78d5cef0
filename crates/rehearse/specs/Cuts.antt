-- Which lines are comments, and how a text is cut into words. Assumes nothing.
use Rattle.std.specs.Prelude.{◌≡◌, ℕ, ◌<◌, Bool, List, [], ◌∷◌, ◌++◌, length, codes, drop, nat_eq}
use Rattle.std.specs.Char.{is_ascii_whitespace, is_not_whitespace, is_whitespace}
use Rattle.std.specs.List.{prefix_len, starts_with}
use Rattle.std.specs.Str.{EmptyOrStartsWithPassing, NoCharPasses}
use Rattle.scripts.specs.Words.{Rest}

-- a line without the blanks at its start
abbrev pub after_blanks : List ℕ → List ℕ
after_blanks line = drop (prefix_len is_ascii_whitespace line) line

-- a comment: its first byte after blanks is #
abbrev pub is_comment : List ℕ → Bool
is_comment line = starts_with nat_eq (after_blanks line) (codes "#")

-- a word without white space, with white space alone before it, and after it the end or white space
abbrev pub IsWord : List ℕ → List ℕ → List ℕ → Type 0
IsWord gap word rest = (0 < length word) × NoCharPasses is_not_whitespace gap
    × NoCharPasses is_whitespace word
    × ((more : List ℕ) × EmptyOrStartsWithPassing is_whitespace rest more)

-- the words of a text, one after another; after the last there is white space alone
abbrev pub CutInto : List ℕ → Rest → Type 0
CutInto text [] = NoCharPasses is_not_whitespace text
CutInto text (word ∷ words) = (gap rest : List ℕ) × (text ≡ gap ++ (word.now ++ rest))
    × IsWord gap word.now rest × CutInto rest words
