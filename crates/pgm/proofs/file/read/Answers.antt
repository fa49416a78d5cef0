use Rattle.std.proofs.Common.{Ok, Err, refl, ap, ◌∙◌}
use Rattle.std.proofs.lemmas.Result.{err_from_is_err_and}
use Rattle.pgm.specs.Machine.{header_of}
use Rattle.pgm.specs.Reading.Reading.{Shows, Faulty}
use Rattle.pgm.specs.declared.faults.FileFault.TheVariants.{Header}
use Rattle.pgm.proofs.Complete.{Judged}
use Rattle.pgm.proofs.Readings.{settled}
use Rattle.pgm.proofs.file.read.Goals as goal

pub returns-in_err-header : goal.returns-in_err-header
returns-in_err-header c =
    let p = err_from_is_err_and c.from_residual.result c.from_residual.ensures.1 in
    let e = c.in_err-header.ensures.answer ∙ ap header_of c.new-reader.ensures.file in
    rw (p.1, p.2) (settled c.args.file.now (Err c.in_err-header.field-0.0) (Faulty (Header c.in_err-header.field-0.0)) e refl)

pub returns-in_err-samples : goal.returns-in_err-samples
returns-in_err-samples c =
    let p = err_from_is_err_and c.from_residual-in_err-samples.result c.from_residual-in_err-samples.ensures.1 in
    let file = c.header.ensures.file ∙ c.new-reader.ensures.file in
    let e = c.in_ok-header.ensures.answer ∙ ap header_of c.new-reader.ensures.file in
    let u : Judged c.args.file.now c.in_ok-header.header (Faulty c.in_err-samples.field-0.0) =
    rw (c.in_ok-header.ensures.next, file) at c.in_err-samples.ensures in
    rw (p.1, p.2) (settled c.args.file.now (Ok c.in_ok-header.header) (Faulty c.in_err-samples.field-0.0) e u)

pub returns : goal.returns
returns c =
    let file = c.header.ensures.file ∙ c.new-reader.ensures.file in
    let e = c.in_ok-header.ensures.answer ∙ ap header_of c.new-reader.ensures.file in
    let h = c.in_ok-header.header in
    let s = rw (c.in_ok-header.ensures.next, file) at c.in_ok-samples.ensures in
    rw (c.from.ensures, c.from-2.ensures)
    (settled c.args.file.now (Ok h) (Shows h.width h.height h.maxval c.in_ok-samples.samples.now) e (refl, refl, refl, s.0, s.1, s.2))
