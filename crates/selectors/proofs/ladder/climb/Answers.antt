use Rattle.std.proofs.Common.{◌≡◌, ℕ, length, get_or, ap, arith}
use Rattle.selectors.specs.Bag.{below}
use Rattle.selectors.specs.Entries.{blank, weigh}
use Rattle.selectors.proofs.Sums.{below_zero, below_suc, below_more}
use Rattle.selectors.proofs.Ranks.{ranked_from}
use Rattle.selectors.proofs.Climbing.{rising_below, rising_upto, weigh_whole}
use Rattle.selectors.proofs.ladder.climb.Goals as goal

pub loop-entry-init : goal.loop-entry-init
loop-entry-init c = (omega (arith, below_zero (λ j. (get_or c.args.entries.now j blank).weight)), omega arith)

pub returns-then-left-entry : goal.returns-then-left-entry
returns-then-left-entry c =
    let es = c.args.entries.now in
    let i = c.loop-entry.entry-index in
    ranked_from (weigh es (length es)) c.args.rank (get_or es i blank).code
    (omega (arith, c.loop-entry.invariant.0, rising_below es (length es) i c.requires.rising (omega arith)))
    (omega (arith, c.loop-entry.invariant.0, rising_upto es (length es) i c.requires.rising (omega arith), below_suc (λ j. (get_or es j blank).weight) i))

pub loop-entry-preserved : goal.loop-entry-preserved
loop-entry-preserved c =
    let f : ℕ → ℕ = λ j. (get_or c.args.entries.now j blank).weight in
    (omega (arith, c.loop-entry.invariant.0, below_more f c.loop-entry.entry-index), omega arith)

pub unreachable-requires : goal.unreachable-requires
unreachable-requires c =
    let es = c.args.entries.now in
    let f : ℕ → ℕ = λ j. (get_or es j blank).weight in
    let end : c.loop-entry.entry-index ≡ length es = omega arith in
    omega (arith, c.loop-entry.invariant.0, ap (below f) end, weigh_whole es (length es) 33554432)
