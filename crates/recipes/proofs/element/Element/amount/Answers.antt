use Rattle.std.proofs.Common.{◌≡◌, ℕ, Some, None, Ok, Err, Option, true, false, sym, refl, ap, ◌∙◌, rules, arith}
use Rattle.std.specs.List.{position}
use Rattle.std.specs.Option.{is_some, ok_or}
use Rattle.recipes.specs.declared.refusals.ElementRefusal.{ElementRefusal}
use Rattle.std.proofs.lemmas.Int.{to_z-of_z}
use Rattle.recipes.specs.Placed.{placed}
use Rattle.recipes.specs.Places.{stands_at, taken}
use Rattle.recipes.proofs.Arrays.{amend_placed, amend_long, amend_lawful}
use Rattle.recipes.proofs.Passing.{any_position}
use Rattle.recipes.proofs.element.Element.amount.Goals as goal

-- what an `ok_or` was made of
was_some : (o : Option ℕ) (e : ElementRefusal) (i : ℕ) → ok_or o e ≡ Ok i → Some i ≡ o
was_some None e i h = search rules
was_some (Some j) e i h = search rules

was_none : (o : Option ℕ) (e f : ElementRefusal) → ok_or o e ≡ Err f → None ≡ o
was_none None e f h = refl
was_none (Some j) e f h = search rules

pub invariant_of-self : goal.invariant_of-self
invariant_of-self c =
    let e = c.args.self.now in
    let at = was_some c.position.result _ c.in_ok-i.i (sym c.ok_or.ensures.value ∙ c.in_ok-i.was) ∙ c.position.ensures in
    record { long = amend_long e _ _ _ c.in_ok-i.i at; within = e.within; sound = amend_lawful e _ _ _ c.in_ok-i.i at (sym c.if-not-in_limits.ensures) }

pub returns-in_err-i-clause-answer : goal.returns-in_err-i-clause-answer
returns-in_err-i-clause-answer c =
    let e = c.args.self.now in
    let fx = c.ranges.dx in
    let fy = c.ranges.dy in
    let fa = c.ranges.amount in
    let inside = c.if-not-in_limits.ensures in
    let at : None ≡ position (stands_at c.args.dx c.args.dy) (placed e) = simp to_z-of_z at (was_none c.position.result _ _ (sym c.ok_or.ensures.value ∙ c.in_err-i.was) ∙ c.position.ensures) in
    let free : taken c.args.dx c.args.dy (placed e) ≡ false = any_position (stands_at c.args.dx c.args.dy) (placed e) ∙ ap is_some (sym at) in
    grind (arith, to_z-of_z)

pub returns : goal.returns
returns c =
    let e = c.args.self.now in
    let fx = c.ranges.dx in
    let fy = c.ranges.dy in
    let fa = c.ranges.amount in
    let inside = c.if-not-in_limits.ensures in
    let at : Some c.in_ok-i.i ≡ position (stands_at c.args.dx c.args.dy) (placed e) = simp to_z-of_z at (was_some c.position.result _ c.in_ok-i.i (sym c.ok_or.ensures.value ∙ c.in_ok-i.was) ∙ c.position.ensures) in
    let there : taken c.args.dx c.args.dy (placed e) ≡ true = any_position (stands_at c.args.dx c.args.dy) (placed e) ∙ ap is_some (sym at) in
    record { answer = grind (arith, to_z-of_z); places = simp to_z-of_z (amend_placed e c.args.dx c.args.dy c.args.amount c.in_ok-i.i at); order = refl; kept = tt }
