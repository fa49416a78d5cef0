use Rattle.std.proofs.Common.{nat_eq, codes, ap, ◌∙◌}
use Rattle.std.proofs.lemmas.Str.Ascii.{trim_ascii_start_is}
use Rattle.std.specs.List.{starts_with}
use Rattle.rehearse.specs.Cuts.{after_blanks}
use Rattle.rehearse.proofs.script.Script.is_comment.Goals as goal

pub returns : goal.returns
returns c =
    let trimmed = trim_ascii_start_is c.as_slice.result.now c.trim_ascii_start.result.now c.trim_ascii_start.ensures.value in
    c.starts_with.ensures.value ∙ ap (λ l. starts_with nat_eq l (codes "#")) (trimmed ∙ ap after_blanks c.as_slice.ensures.value)
