use Rattle.std.proofs.Common.{◌≡◌, ℕ, ◌+◌, ◌<◌, cond, eqb, length, get_or, ◌∙◌, arith, length-set}
use Rattle.std.proofs.lemmas.Bool.Decides.{nat_tests}
use Rattle.selectors.proofs.Sums.{below_at}
use Rattle.selectors.proofs.Tallies.{tally_added, getD_added}
use Rattle.selectors.proofs.histogram.HistogramSelector.put.Goals as goal

pub overflow_add-self : goal.overflow_add-self
overflow_add-self c = omega (arith, below_at (λ k. get_or c.args.self.now.weights k 0) c.args.code 512 (omega arith))

pub invariant_of-self : goal.invariant_of-self
invariant_of-self c =
    let ws = c.args.self.now.weights in
    let w : ℕ → ℕ = λ k. get_or ws k 0 in
    let code = c.args.code in
    let a = c.args.amount in
    let within : code < length ws = omega (arith, c.args.self.now.size) in
    let new : c.from.result ≡ cond {A = ℕ} (eqb (w code) 0) 1 0 = grind (arith, nat_tests) in
    record {
      size = length-set ws code (w code + a) ∙ c.args.self.now.size;
      tally = rw (c.in_ok-self.ensures.0, new) (tally_added w _ 512 _ _ code a c.args.self.now.tally (λ d. getD_added ws code a d within) (omega arith) (omega arith) (omega arith) (omega arith));
    }
