use Rattle.std.proofs.Common.{◌≡◌, ℕ, ◌+◌, ◌-◌, ◌/◌, length, get_or, sym, subst, arith}
use Rattle.selectors.specs.Bag.{below}
use Rattle.selectors.specs.Entries.{blank, under, weigh}
use Rattle.selectors.proofs.Sums.{below_zero, below_more}
use Rattle.selectors.proofs.Narrowing.{Narrowed, under_all, under_light, halved_half, halved_low, halved_high, narrowed_end}
use Rattle.selectors.proofs.gate.narrow.Goals as goal

pub loop-bit-init : goal.loop-bit-init
loop-bit-init c = (omega arith, (omega (arith, below_zero (weigh c.args.entries.now (length c.args.entries.now))), omega arith, omega arith, omega arith))

pub loop-entry-init : goal.loop-entry-init
loop-entry-init c = sym (below_zero _)

-- the sum after this entry
lower_more : (c : goal.After-weight_under-lower) → c.loop-entry.lower + c.weight_under-lower.result ≡ below (λ i. under (get_or c.args.entries.now i blank) (c.loop-bit.bit - 1) c.loop-bit.low) (c.loop-entry.entry-index + 1)
lower_more c =
    let f : ℕ → ℕ = λ i. under (get_or c.args.entries.now i blank) (c.loop-bit.bit - 1) c.loop-bit.low in
    let was : c.loop-entry.lower ≡ below f c.loop-entry.entry-index = c.loop-entry.invariant in
    let here : c.weight_under-lower.result ≡ f c.loop-entry.entry-index = c.weight_under-lower.ensures in
    omega (arith, was, here, below_more f c.loop-entry.entry-index)

pub overflow_add-lower : goal.overflow_add-lower
overflow_add-lower c =
    let small = halved_half _ _ _ _ _ (omega arith) c.loop-bit.invariant in
    let light = under_light c.args.entries.now (length c.args.entries.now) (c.loop-bit.bit - 1) c.loop-bit.low (c.loop-entry.entry-index + 1) (omega arith) small (omega arith) in
    omega (arith, light, lower_more c)

pub loop-entry-preserved : goal.loop-entry-preserved
loop-entry-preserved c = lower_more c

pub loop-bit-preserved-then-left-lower : goal.loop-bit-preserved-then-left-lower
loop-bit-preserved-then-left-lower c = halved_low _ _ _ _ _ c.loop-entry.lower (omega arith) c.loop-bit.invariant (under_all c.args.entries.now (c.loop-bit.bit - 1) c.loop-bit.low c.loop-entry.entry-index c.loop-entry.lower (omega arith) c.loop-entry.invariant) (omega arith)

pub loop-bit-preserved : goal.loop-bit-preserved
loop-bit-preserved c = halved_high _ _ _ _ _ c.loop-entry.lower (omega arith) c.loop-bit.invariant (under_all c.args.entries.now (c.loop-bit.bit - 1) c.loop-bit.low c.loop-entry.entry-index c.loop-entry.lower (omega arith) c.loop-entry.invariant) (omega arith)

pub returns : goal.returns
returns c =
    let end : c.loop-bit.bit ≡ 0 = omega arith in
    let w = weigh c.args.entries.now (length c.args.entries.now) in
    narrowed_end w c.args.rank (c.loop-bit.low / 2) c.loop-bit.left (subst (λ k. Narrowed w c.args.rank k (c.loop-bit.low / 2) c.loop-bit.left) end c.loop-bit.invariant.1)
