-- The worked examples of files that cards write.
use Rattle.std.proofs.Common.{ℕ, refl}
use Rattle.std.specs.Fmt.{digits}
use Rattle.areas.specs.Areas.{spread, stale_rows}
use Rattle.calls.specs.Outcomes.{laid}
use Rattle.recipes.specs.Reaches.{reach}
use Rattle.recipes.specs.declared.draft.Draft.{Draft}
use Rattle.recipes.specs.declared.draft.Letter.TheVariants as letter
use Rattle.cases.specs.Samples.{ECross}
use Rattle.cases.specs.Written.{FileExamples, HeaderExamples}
use Rattle.cases.proofs.OneStep.{every_cross}

pub header_examples : HeaderExamples
unfolding digits
header_examples = record { one = refl; nine = refl; ten = refl; hundred = refl; largest = refl }

pub file_examples : (d : Draft) → ECross d → (w : ℕ → ℕ) (t : ℕ) → FileExamples d w t
unfolding digits laid reach spread stale_rows
file_examples = every_cross 69 letter.Erosion (λ d. (w : ℕ → ℕ) (t : ℕ) → FileExamples d w t) refl (λ a b w t. record {
  enough = record { answer = refl; bytes = refl };
  more = record { answer = refl; bytes = refl };
  fewer = record { answer = refl; bytes = refl };
  stale = λ lent. record { answer = refl; bytes = refl };
  raw = record { answer = refl; bytes = refl };
  no_size = λ lent. record { answer = refl; bytes = refl };
  wrong_memory = λ lent. record { answer = refl; bytes = refl };
})
