-- The names of the parts of an element, and what is read of a name. Assumes nothing.
use Rattle.std.specs.Prelude.{◌≡◌, ◌≢◌, ℕ, List, MatchResult, Result, codes}
use Rattle.recipes.specs.declared.places.Part.{Part}
use Rattle.recipes.specs.declared.places.Part.TheVariants.{Core, Soft}
use Rattle.recipes.specs.declared.places.UnknownPart.{UnknownPart}

-- the name of each part
abbrev pub part_name : Part → List ℕ
part_name Core = codes "core"
part_name Soft = codes "soft"

-- the part of a name, or that no part has it
abbrev pub IsNamed : List ℕ → Result Part UnknownPart → Type 0
IsNamed w r = MatchResult r (λ k. w ≡ part_name k) (λ _. (k : Part) → w ≢ part_name k)

-- what is printed where no part has the name
abbrev pub unknown_text : List ℕ
unknown_text = codes "neither core nor soft"
