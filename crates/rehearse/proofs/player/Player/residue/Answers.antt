use Rattle.std.proofs.Common.{rules, ◌≡◌, Ok, Err, inr, refl, ap, ◌∙◌, string_bytes}
use Rattle.std.proofs.lemmas.Grind.{common_steps}
use Rattle.scripts.specs.Rows.{relief_shown, rows_text}
use Rattle.rehearse.proofs.player.Player.residue.Goals as goal

pub returns-in_err-residue : goal.returns-in_err-residue
returns-in_err-residue g c = inr (Err c.in_err-residue.field-0.0, c.residue.new.reliefs, search rules, search rules)

pub returns : goal.returns
returns g c =
    let text : string_bytes c.in_ok-rows_shown.field-0 ≡ rows_text relief_shown c.residue.new.reliefs = c.in_ok-rows_shown.ensures ∙ ap (λ reliefs. rows_text relief_shown reliefs) (c.as_slice-2.ensures.value ∙ search (rules, common_steps)) in
    inr (Ok c.in_ok-residue.field-0, c.residue.new.reliefs, search rules, (c.in_ok-rows_shown.field-0, refl, text))
