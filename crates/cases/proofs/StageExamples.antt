-- The worked examples of tones, orders and stages.
use Rattle.std.proofs.Common.{refl}
use Rattle.recipes.specs.Shapes.{grid, standard_places}
use Rattle.recipes.specs.declared.draft.Draft.{Draft}
use Rattle.recipes.specs.declared.draft.Letter.TheVariants as letter
use Rattle.selectors.specs.Bag.{below}
use Rattle.stages.specs.Stages.{cleaned, made, ranked_code, window}
use Rattle.cases.specs.Examples.{ClosingExamples, DilationExamples, ErosionExamples, OpeningExamples, OrderExamples, ToneExamples}
use Rattle.cases.specs.Samples.{CCross, DCross, ECross, OCross}
use Rattle.cases.proofs.OneStep.{every_cross}

pub tone_examples : ToneExamples
tone_examples = record { lowered = λ t h. rw h; raised = λ t h. rw h; relief = λ t h. rw h }

pub order_examples : OrderExamples
unfolding standard_places grid
order_examples = record { shape = refl; places = refl; order_2 = refl; order_0 = refl; order_3 = refl }

pub erosion_examples : (d : Draft) → ECross d → ErosionExamples d
unfolding made cleaned ranked_code window below
erosion_examples = every_cross 69 letter.Erosion ErosionExamples refl (λ a b. record { makes = refl })

pub dilation_examples : (d : Draft) → DCross d → DilationExamples d
unfolding made cleaned ranked_code window below
dilation_examples = every_cross 68 letter.Dilation DilationExamples refl (λ a b. record { makes = refl })

pub opening_examples : (d : Draft) → OCross d → OpeningExamples d
unfolding made cleaned ranked_code window below
opening_examples = every_cross 79 letter.Opening OpeningExamples refl (λ a b. record { makes = refl })

pub closing_examples : (d : Draft) → CCross d → ClosingExamples d
unfolding made cleaned ranked_code window below
closing_examples = every_cross 67 letter.Closing ClosingExamples refl (λ a b. record { makes = refl })
