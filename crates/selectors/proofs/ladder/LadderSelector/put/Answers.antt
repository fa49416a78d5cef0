use Rattle.std.proofs.Common.{Err, sym, ap, subst}
use Rattle.selectors.specs.Entries.{Seat}
use Rattle.selectors.proofs.ladder.LadderSelector.put.Goals as goal

pub invariant_of-self-in-Err : goal.invariant_of-self-in-Err
invariant_of-self-in-Err c =
    let at = c.in-Err.at in
    let entry = c.in_ok-entry.entry in
    let seat = subst (λ k. Seat c.as_slice.result.now k (Err at)) (sym (ap (λ e. e.code) c.in_ok-entry.ensures.0)) c.in-Err.ensures in
    record { rising = c.insert.ensures.rising (subst (λ es. Seat es entry.code (Err at)) c.as_slice.ensures.items seat) c.args.self.now.rising }
