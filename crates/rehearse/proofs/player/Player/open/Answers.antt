use Rattle.std.proofs.Common.{rules, Err, inr}
use Rattle.rehearse.proofs.player.Player.open.Goals as goal

pub returns-in_err-open-clause-outcome : goal.returns-in_err-open-clause-outcome
returns-in_err-open-clause-outcome g c =
    let (zero, is, lends) = c.in_ok-rows.ensures in
    inr (c.in_ok-rows_read.field-0.items, zero, Err c.in_err-open.field-0.0, search rules, is, search rules, record { answer = search rules; notes = search rules; held = search rules; weights = search rules })
