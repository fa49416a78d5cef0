-- All the laws of soft morphology hold of every lawful kind of tones. Assumes nothing.
use Rattle.tones.specs.Kind.{Kind, Laws}
use Rattle.filters.specs.Laws.{SoftMorphologyLaws}
use Rattle.filters.proofs.Counting as counting
use Rattle.filters.proofs.Cuts as cuts
use Rattle.filters.proofs.Locality as locality
use Rattle.filters.proofs.Monotony as monotony
use Rattle.filters.proofs.Softness as softness
use Rattle.filters.proofs.Steps as steps
use Rattle.filters.proofs.Vectors as vectors
use Rattle.filters.proofs.Windows as windows

pub laws_hold : {T R : Type 0} (K : Kind T R) → Laws K → SoftMorphologyLaws K
laws_hold K law = record {
  picks = windows.picks K law;
  soft_morphology = softness.soft_morphology K law;
  steps = steps.steps K law;
  flat_steps = steps.flat_steps K law;
  in_turn = steps.in_turn K;
  marks_count = counting.marks_count;
  keeps_vector = vectors.keeps_vector K law;
  local = locality.local K;
  keeps_order = monotony.keeps_order K law;
  goes_with_cuts = cuts.goes_with_cuts K law;
}
