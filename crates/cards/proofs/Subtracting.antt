-- One difference more.
use Rattle.std.proofs.Common.{◌≡◌, ℕ, ◌+◌, ◌<◌, List, [], ◌∷◌, ◌++◌, length, get_or, take, set, ℤ, sym, refl, ap, ◌∙◌, ap₂, add-one}
use Rattle.std.proofs.lemmas.List.{take_more_set}
use Rattle.calls.specs.Residue.{difference, differences}

pub differences_none : (m : List ℕ) (from : ℕ) → differences m from 0 ≡ []
unfolding differences
differences_none m from = refl

pub differences_more : (m : List ℕ) (from i : ℕ) (reliefs : List ℤ) (d : ℤ) → i < length reliefs → take i reliefs ≡ differences m from i → d ≡ difference (get_or m i 0) (get_or m (from + i) 0) → take (i + 1) (set reliefs i d) ≡ differences m from (i + 1)
unfolding differences
differences_more m from i reliefs d h e is =
    take_more_set reliefs i d h ∙ (ap₂ (λ front item. front ++ item ∷ []) e is ∙ sym (ap (differences m from) (add-one i)))
