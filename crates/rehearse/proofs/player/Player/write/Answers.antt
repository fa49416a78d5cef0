use Rattle.std.proofs.Common.{rules, ◌≡◌, inr, ap, ◌∙◌, string_bytes}
use Rattle.scripts.specs.Rows.{rows_text, spaced}
use Rattle.rehearse.proofs.player.Player.write.Goals as goal

pub returns : goal.returns
returns g c =
    let file = c.in_ok-file.file.items in
    let text : string_bytes c.in_ok-bytes.bytes ≡ rows_text spaced file = c.in_ok-bytes.ensures ∙ ap (λ bytes. rows_text spaced bytes) c.as_slice.ensures.value in
    inr (file, search rules, (c.in_ok-bytes.bytes, search rules, text))
