-- The worked examples of refused calls.
use Rattle.std.proofs.Common.{◌≡◌, ℕ, true, false, ℤ, pos, negsuc, nat_le, unsigned_abs, refl}
use Rattle.areas.specs.Areas.{stale_rows}
use Rattle.recipes.specs.declared.draft.Draft.{Draft}
use Rattle.recipes.specs.declared.draft.Letter.TheVariants as letter
use Rattle.calls.specs.Calls.Answer.{Done}
use Rattle.calls.specs.Calls.Call.{Install}
use Rattle.cases.specs.Refused.{RefusalExamples, Refuses}
use Rattle.cases.specs.Samples.{Each, OCross, answer, fresh_card, origin_of}
use Rattle.cases.proofs.OneStep.{each, every_cross, origin_parts}

two_stages_refused : (w : ℕ → ℕ) (d : Draft) → OCross d → Refuses (fresh_card w) (Install d) 20
two_stages_refused w =
    every_cross 79 letter.Opening (λ d. Refuses (fresh_card w) (Install d) 20) refl
    (λ a b. record { number = refl; kept = refl })

-- an amount that an element takes and greys do not
over_span :
    (w : ℕ → ℕ) (a : ℤ) → nat_le (unsigned_abs a) 1024 ≡ true → nat_le (unsigned_abs a) 255 ≡ false →
    Each 69 (origin_of a) 1 (λ d. Refuses (fresh_card w) (Install d) 21)
over_span w a h e =
    each 69 letter.Erosion refl (origin_parts a h) refl
    (λ d. Refuses (fresh_card w) (Install d) 21)
    (λ x b. record { number = rw e; kept = rw e })

pub refusal_examples : (w : ℕ → ℕ) → RefusalExamples w
unfolding stale_rows
refusal_examples w = record {
  no_size_patch = record { number = refl; kept = refl };
  no_size_install = λ d. record { number = refl; kept = refl };
  no_size_work = record { number = refl; kept = refl };
  no_size_row = record { number = refl; kept = refl };
  no_size_left = refl;
  no_size_due = refl;
  length_patch = record { number = refl; kept = refl };
  length_install = λ d. record { number = refl; kept = refl };
  length_work = record { number = refl; kept = refl };
  length_row = record { number = refl; kept = refl };
  length_left = refl;
  outside_patch = λ tones. record { number = refl; kept = refl };
  outside_row = record { number = refl; kept = refl };
  empty_patch = record { number = refl; kept = refl };
  empty_row = record { number = refl; kept = refl };
  one_tone = record { number = refl; kept = refl };
  three_tones = record { number = refl; kept = refl };
  two_stages = two_stages_refused w;
  amount_300 = over_span w (pos 300) refl refl;
  amount_below = over_span w (negsuc 255) refl refl;
  amount_255 =
      each 69 letter.Erosion refl (origin_parts (pos 255) refl) refl
      (λ d. answer (fresh_card w) (Install d) ≡ Done)
      (λ a b. refl);
}
