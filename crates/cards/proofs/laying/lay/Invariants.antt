use Rattle.std.proofs.Common.{◌≡◌, ◌+◌, ◌*◌, ◌≤◌, length, drop}
use Rattle.std.specs.Iterator.Adapters.{zip_first, zip_second}
use Rattle.std.specs.Slice.Iter.{chunks_rest, chunks_size}
use Rattle.calls.specs.Outcomes.{laid}
use Rattle.cards.proofs.laying.lay.Given as goal

abbrev pub invariant-loop-row : goal.invariant-loop-row
invariant-loop-row g l = record {
  done : l.memory ≡ laid g.T.Tone.kind l.frame.size l.rect.left l.rect.top l.width l.tones l.initial.memory (length l.yielded);
  rest : chunks_rest (zip_first l.row-iterator) ≡ drop (length l.yielded * l.width) l.tones;
  size : chunks_size (zip_first l.row-iterator) ≡ l.width;
  row : (zip_second l.row-iterator).start ≡ l.rect.top + length l.yielded;
  end : (zip_second l.row-iterator).end ≡ l.rect.bottom;
  within : l.rect.top + length l.yielded ≤ l.rect.bottom;
}
