use Rattle.std.proofs.Common.{◌≡◌, length, sym, ap, ◌∙◌}
use Rattle.pgm.specs.Machine.{runs, closing}
use Rattle.pgm.specs.declared.machine.State.TheVariants.{Mark}
use Rattle.pgm.proofs.Steps.{Ends, ends_after, ends_open, closed_next, runs_again, runs_stop, runs_all}
use Rattle.pgm.proofs.reader.Reader.header.Goals as goal
use Rattle.pgm.proofs.reader.Reader.header.Goals.{in-Some+then-is_final, in_default}

pub loop-at-preserved : goal.loop-at-preserved
loop-at-preserved c =
    let led = runs_again _ _ _ _ _ _ _ _ c.loop-at.invariant.1 c.in-Some.ensures.step c.from.ensures c.take.ensures in
    (c.advance.ensures.file ∙ c.loop-at.invariant.0, rw c.advance.ensures.file led, sym c.if-is_final.ensures)

pub returns : goal.returns
returns c =
    let file = c.args.self.now.file.now in
    let same : c.advance.new.self.file.now ≡ file = c.advance.ensures.file ∙ c.loop-at.invariant.0 in
    let all : (c.match-advance.state ≡ runs Mark 0 file) × Ends c.match-advance.state c.advance.new.self.next =
    elim c.match-advance.branch [
      | in-Some+then-is_final w ↦
          let led = runs_again _ _ _ _ _ _ _ _ c.loop-at.invariant.1 w.in-Some.ensures.step w.from.ensures w.take.ensures in
          rw w.state-is (
            runs_stop _ _ _ _ led (sym w.if-is_final.ensures),
            rw (w.take.ensures, w.in-Some.ensures.step.3, w.in-Some.ensures.step.1) (ends_after c.loop-at.self.next w.from.result c.loop-at.state c.loop-at.invariant.2),
          )
      | in_default w ↦
          rw w.state-is (
            sym (runs_all c.loop-at.state c.loop-at.self.file.now c.loop-at.self.next w.in_default.ensures.step.0) ∙ c.loop-at.invariant.1,
            ends_open c.loop-at.state _ c.loop-at.invariant.2,
          )
    ] in
    record {
      file = same;
      answer = c.close.ensures ∙ ap (λ f. closing (length f) c.match-advance.state) same ∙ ap (closing (length file)) all.0;
      next = closed_next c.close.result c.match-advance.state _ _ c.close.ensures all.1;
    }
