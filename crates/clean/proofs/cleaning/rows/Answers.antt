use Rattle.std.proofs.Common.{◌≡◌, sym, ap, ◌∙◌, arith}
use Rattle.filters.specs.Restaging.{lines}
use Rattle.tones.specs.Greys.{greys}
use Rattle.clean.specs.Cleaning.{state}
use Rattle.clean.proofs.Collecting.{Bytes, lines_none, lines_next, row_is_ok, row_is_right}
use Rattle.clean.proofs.cleaning.rows.Goals as goal

pub loop-y-init : goal.loop-y-init
loop-y-init c = λ f _. c.new-tones.ensures.items ∙ sym (lines_none c.args.size f)

pub unwrap-requires : goal.unwrap-requires
unwrap-requires c =
    let at = state c.args.card.now c.args.memory.now in
    row_is_ok at at c.args.size c.requires.0 c.loop-y.y c.row.result c.requires.1 c.loop-y-test.true c.row.ensures

pub loop-y-preserved : goal.loop-y-preserved
loop-y-preserved c = λ f hands.
    let s = c.args.size in
    let at = state c.args.card.now c.args.memory.now in
    let bytes : Bytes c.args.memory.now = λ i. omega (arith, c.type_inv.memory i) in
    let right = row_is_right at at s f c.loop-y.y c.row.result c.unwrap.result bytes hands c.loop-y-test.true c.row.ensures c.unwrap.ensures in
    lines_next s f c.loop-y.y _ _ _ (c.loop-y.invariant f hands) right c.in_ok-extend_from_slice.ensures.items

pub returns : goal.returns
returns c = λ f hands.
    let end : c.loop-y.y ≡ c.args.size.height = omega (arith, c.loop-y-test.false, c.loop-y.auto.y-end) in
    c.loop-y.invariant f hands ∙ ap (λ n. lines greys c.args.size f n) end
