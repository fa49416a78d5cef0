-- The k-th smallest and the k-th largest of a list of whole numbers. Assumes nothing.
use Rattle.std.specs.Prelude.{ℕ, ◌<◌, ◌≤◌, List, ℤ, count_by, int_le, int_lt}
use Rattle.recipes.specs.declared.recipe.Operation.{Operation}
use Rattle.recipes.specs.declared.recipe.Operation.TheVariants.{Erosion, Dilation}

-- z is the k-th smallest: fewer than k items are below it, and at least k are at most it
abbrev pub KthSmallest : ℕ → List ℤ → ℤ → Type 0
KthSmallest k items z =
    (count_by (λ i. int_lt i z) items < k)
    × (k ≤ count_by (λ i. int_le i z) items)

-- z is the k-th largest: fewer than k items are above it, and at least k are at least it
abbrev pub KthLargest : ℕ → List ℤ → ℤ → Type 0
KthLargest k items z =
    (count_by (λ i. int_lt z i) items < k)
    × (k ≤ count_by (λ i. int_le z i) items)

-- an erosion takes the k-th smallest, a dilation the k-th largest
abbrev pub Kth : Operation → ℕ → List ℤ → ℤ → Type 0
Kth Erosion k items z = KthSmallest k items z
Kth Dilation k items z = KthLargest k items z
