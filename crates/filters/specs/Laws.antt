-- All the laws of soft morphology. Assumes nothing.
use Rattle.tones.specs.Kind.{Kind}
use Rattle.filters.specs.Morphology.{Picks, SoftMorphology, MarksCount, KeepsVector, Local, KeepsOrder, GoesWithCuts}
use Rattle.filters.specs.Steps.{Steps, FlatSteps, StepsInTurn}

-- of the tones of a kind; the marks that count are those that its pictures are cut into
pub record SoftMorphologyLaws {T R : Type 0} (K : Kind T R) : Type 0 where
  pub picks : Picks K
  pub soft_morphology : SoftMorphology K
  pub steps : Steps K
  pub flat_steps : FlatSteps K
  pub in_turn : StepsInTurn K
  pub marks_count : MarksCount
  pub keeps_vector : KeepsVector K
  pub local : Local K
  pub keeps_order : KeepsOrder K
  pub goes_with_cuts : GoesWithCuts K
