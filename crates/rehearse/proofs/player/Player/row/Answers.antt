use Rattle.std.proofs.Common.{rules, Ok, refl}
use Rattle.rehearse.proofs.player.Player.row.Goals as goal

pub returns : goal.returns
returns g c = (Ok c.in_ok-rows.rows, search rules, (c.in_ok-rows_shown.field-0, refl, search rules))
