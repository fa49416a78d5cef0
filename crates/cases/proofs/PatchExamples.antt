-- The worked examples of patches of more than one pixel.
use Rattle.std.proofs.Common.{ℕ, refl}
use Rattle.calls.specs.History.{raw}
use Rattle.calls.specs.Outcomes.{laid}
use Rattle.cases.specs.Patches.{PatchExamples}

pub patch_examples : (w : ℕ → ℕ) → PatchExamples w
unfolding laid raw
patch_examples w = record {
  beside = record { done = refl; memory = refl; rules = refl };
  below = record { done = refl; memory = refl; rules = refl };
  square = record { done = refl; memory = refl; rules = refl };
}
