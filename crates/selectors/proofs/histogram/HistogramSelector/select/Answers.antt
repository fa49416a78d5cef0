use Rattle.std.proofs.Common.{◌≡◌, ℕ, ◌+◌, get_or, arith}
use Rattle.selectors.specs.Bag.{below}
use Rattle.selectors.proofs.Sums.{below_zero, below_more, below_suc, below_short}
use Rattle.selectors.proofs.Ranks.{ranked_from}
use Rattle.selectors.proofs.histogram.HistogramSelector.select.Goals as goal

pub loop-left-init : goal.loop-left-init
loop-left-init c = let none = below_zero (λ k. get_or c.args.self.now.weights k 0) in (omega arith, omega arith, omega arith)

pub loop-left-preserved : goal.loop-left-preserved
loop-left-preserved c =
    let w : ℕ → ℕ = λ k. get_or c.args.self.now.weights k 0 in
    let code = c.loop-left.code in
    let was : below w code + c.loop-left.left ≡ c.args.rank = c.loop-left.invariant.1 in
    let more : below w (code + 1) ≡ below w code + w code = below_more w code in
    let whole : c.args.self.now.sum ≡ below w 512 = c.args.self.now.tally.0 in
    (below_short w c.args.rank (code + 1) 512 (omega arith) (omega arith), omega arith, omega arith)

pub returns : goal.returns
returns c =
    let w : ℕ → ℕ = λ k. get_or c.args.self.now.weights k 0 in
    let code = c.loop-left.code in
    let was : below w code + c.loop-left.left ≡ c.args.rank = c.loop-left.invariant.1 in
    let whole : c.args.self.now.sum ≡ below w 512 = c.args.self.now.tally.0 in
    record { answer = (omega arith, omega arith, ranked_from w c.args.rank code (omega arith) (omega (arith, below_suc w code))) }
