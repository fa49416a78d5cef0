use Rattle.std.proofs.Common.{◌≡◌, ◌-◌, length, Some, None, sym, ap, ◌∙◌, subst}
use Rattle.std.specs.List.{slice_get}
use Rattle.std.specs.Option.{option_copied, unwrap_or}
use Rattle.areas.specs.Areas.{last_area, met, FirstMet}
use Rattle.areas.specs.Listed.{listed}
use Rattle.areas.proofs.Walks.{last_read}
use Rattle.areas.proofs.Meeting.{met_first}
use Rattle.areas.proofs.areas.Areas.first_met.Goals as goal

pub returns-in_err-last : goal.returns-in_err-last
returns-in_err-last c =
    let v = c.last.ensures.value ∙ ap (λ l. slice_get l (length l - 1)) c.listed.ensures in
    let e : last_area (listed c.args.self.now) ≡ None = last_read (listed c.args.self.now) ∙ ap (λ o. unwrap_or o None) (sym v) ∙ ap (λ r. unwrap_or (option_copied r) None) c.in_err-last.was in
    let is : c.from_residual.result ≡ met (last_area (listed c.args.self.now)) c.args.x c.args.y c.args.n = c.from_residual.ensures ∙ sym (ap (λ a. met a c.args.x c.args.y c.args.n) e) in
    record { answer = is; meaning = subst (FirstMet (last_area (listed c.args.self.now)) c.args.x c.args.y c.args.n) (sym is) (met_first (last_area (listed c.args.self.now)) c.args.x c.args.y c.args.n) }

pub returns-in_err-branch : goal.returns-in_err-branch
returns-in_err-branch c =
    let v = c.last.ensures.value ∙ ap (λ l. slice_get l (length l - 1)) c.listed.ensures in
    let e : last_area (listed c.args.self.now) ≡ None = last_read (listed c.args.self.now) ∙ ap (λ o. unwrap_or o None) (sym v) ∙ ap (λ r. unwrap_or (option_copied r) None) c.in_ok-last.was ∙ c.in_err-branch.was in
    let is : c.from_residual-in_err-branch.result ≡ met (last_area (listed c.args.self.now)) c.args.x c.args.y c.args.n = c.from_residual-in_err-branch.ensures ∙ sym (ap (λ a. met a c.args.x c.args.y c.args.n) e) in
    record { answer = is; meaning = subst (FirstMet (last_area (listed c.args.self.now)) c.args.x c.args.y c.args.n) (sym is) (met_first (last_area (listed c.args.self.now)) c.args.x c.args.y c.args.n) }

pub returns : goal.returns
returns c =
    let v = c.last.ensures.value ∙ ap (λ l. slice_get l (length l - 1)) c.listed.ensures in
    let e : last_area (listed c.args.self.now) ≡ Some c.in_ok-branch.field-0 =
    last_read (listed c.args.self.now) ∙ ap (λ o. unwrap_or o None) (sym v) ∙ ap (λ r. unwrap_or (option_copied r) None) c.in_ok-last.was ∙ c.in_ok-branch.was in
    let is : c.met.result ≡ met (last_area (listed c.args.self.now)) c.args.x c.args.y c.args.n = rw e c.met.ensures in
    record { answer = is; meaning = subst (FirstMet (last_area (listed c.args.self.now)) c.args.x c.args.y c.args.n) (sym is) (met_first (last_area (listed c.args.self.now)) c.args.x c.args.y c.args.n) }
