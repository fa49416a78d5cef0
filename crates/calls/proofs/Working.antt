-- Runs in which only work is accepted.
use Rattle.std.proofs.Common.{◌≡◌, ◌-◌, Bool, true, false, cond, [], ◌∷◌, ◌++◌, refl, subst, arith}
use Rattle.std.proofs.lemmas.Bool.{false≢true}
use Rattle.planes.specs.declared.size.Size.{Size}
use Rattle.areas.specs.Areas.{areas_fit, stale_rows}
use Rattle.stages.specs.Stages.{Picture}
use Rattle.tones.specs.Kind.{Kind}
use Rattle.calls.specs.Calls.{State, Call, Answer}
use Rattle.calls.specs.Calls.Call.{Patch, Install, Work, Row, Left, Due}
use Rattle.calls.specs.Outcomes.{rectangle}
use Rattle.calls.specs.History.{Event, History, accepted, noted, in_force, stale, raw}
use Rattle.calls.specs.History.Event.{Patched, Installed, Worked}
use Rattle.calls.specs.Runs.{Run, only_work, budgets}
use Rattle.calls.specs.Runs.Run.{none, more}
use Rattle.calls.proofs.Lessening.{areas_fit_less, rows_less}

-- a call is noted after an earlier history as after none
noted_either : {R : Type 0} (b : Bool) (e : Event R) (g h : History R) → cond b (e ∷ (g ++ h)) (g ++ h) ≡ cond b (e ∷ g) g ++ h
noted_either true e g h = refl
noted_either false e g h = refl

noted_on : {R : Type 0} (c : Call R) (a : Answer R) (g h : History R) → noted c a (g ++ h) ≡ noted c a g ++ h
noted_on (Patch x y w n tones) a g h = noted_either (accepted a) (Patched (rectangle x y w n) tones) g h
noted_on (Install d) a g h = noted_either (accepted a) (Installed d) g h
noted_on (Work budget) a g h = noted_either (accepted a) (Worked budget) g h
noted_on (Row x y n) a g h = refl
noted_on Left a g h = refl
noted_on Due a g h = refl

-- a run from where another ends goes on with it
pub run_on : {T R : Type 0} (K : Kind T R) (st mid : State R) (h : History R) → Run K st h mid → (g : History R) (at : State R) → Run K mid g at → Run K st (g ++ h) at
run_on K st mid h run g at none = run
run_on K st mid h run g at (more {h = f} {at = by} rest c a to out) =
    subst (λ k. Run K st k to) (noted_on c a f h) (more (run_on K st mid h run f by rest) c a to out)

-- work changes neither the recipe nor the raw card
pub in_force_on : {R : Type 0} (g h : History R) → only_work g ≡ true → in_force (g ++ h) ≡ in_force h
unfolding only_work in_force
in_force_on [] h only = refl
in_force_on (Patched r tones ∷ g) h only = absurd (false≢true only)
in_force_on (Installed d ∷ g) h only = absurd (false≢true only)
in_force_on (Worked budget ∷ g) h only = in_force_on g h only

pub raw_on : {T R : Type 0} (K : Kind T R) (first : Picture T) (g h : History R) → only_work g ≡ true → raw K first (g ++ h) ≡ raw K first h
unfolding only_work raw
raw_on K first [] h only = refl
raw_on K first (Patched r tones ∷ g) h only = absurd (false≢true only)
raw_on K first (Installed d ∷ g) h only = absurd (false≢true only)
raw_on K first (Worked budget ∷ g) h only = raw_on K first g h only

-- and it takes its budgets from the stale rows
fit_on : {R : Type 0} (size : Size) (g h : History R) → only_work g ≡ true → areas_fit size (stale size h) ≡ true → areas_fit size (stale size (g ++ h)) ≡ true
unfolding only_work stale
fit_on size [] h only fit = fit
fit_on size (Patched r tones ∷ g) h only fit = absurd (false≢true only)
fit_on size (Installed d ∷ g) h only fit = absurd (false≢true only)
fit_on size (Worked budget ∷ g) h only fit = areas_fit_less size budget (stale size (g ++ h)) (fit_on size g h only fit)

pub rows_on : {R : Type 0} (size : Size) (g h : History R) → only_work g ≡ true → areas_fit size (stale size h) ≡ true → stale_rows (stale size (g ++ h)) ≡ stale_rows (stale size h) - budgets g
unfolding only_work stale budgets
rows_on size [] h only fit = omega arith
rows_on size (Patched r tones ∷ g) h only fit = absurd (false≢true only)
rows_on size (Installed d ∷ g) h only fit = absurd (false≢true only)
rows_on size (Worked budget ∷ g) h only fit = omega (arith, rows_less size budget (stale size (g ++ h)) (fit_on size g h only fit), rows_on size g h only fit)
