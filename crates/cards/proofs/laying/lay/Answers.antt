use Rattle.std.proofs.Common.{◌≡◌, ◌+◌, ◌-◌, ◌*◌, ◌<◌, ◌≤◌, [], ◌∷◌, ◌++◌, map, length, drop, ⊎_elim, sym, ap, ◌∙◌, arith, rules}
use Rattle.std.proofs.lemmas.List.{length_push, length-map}
use Rattle.std.specs.Iterator.Adapters.{zip_second}
use Rattle.planes.specs.Sizes.{cell}
use Rattle.calls.specs.Outcomes.{laid}
use Rattle.cards.proofs.Written.{laid_none, laid_more, next_row, rows_came, put_over}
use Rattle.cards.proofs.laying.lay.Goals as goal

pub loop-row-init : goal.loop-row-init
loop-row-init g c =
    let r = c.args.rect in record {
      done = sym (laid_none g.T.Tone.kind c.args.frame.size r.left r.top (r.right - r.left) c.args.tones.now c.args.memory.now);
      rest = search rules;
      size = search rules;
      row = search rules;
      end = search rules;
      within = search rules;
    }

pub loop-row-preserved : goal.loop-row-preserved
loop-row-preserved g c =
    let k = g.T.Tone.kind in
    let r = c.args.rect in
    let w = r.right - r.left in
    let n = length c.loop-row.yielded in
    let was = c.loop-row.invariant in
    let by = c.in-Some.ensures.steps in
    let more : length (c.loop-row.yielded ++ (c.in-Some.row, c.in-Some.y) ∷ []) ≡ n + 1 = length_push c.loop-row.yielded (c.in-Some.row, c.in-Some.y) in
    let y : c.in-Some.y ≡ r.top + n = omega (arith, by, was.row) in
    let down : n < r.bottom - r.top = omega (arith, by, was.row, was.end) in
    let at : c.cell-at.result ≡ cell c.args.frame.size r.left (r.top + n) = c.cell-at.ensures.value ∙ ap (cell c.args.frame.size r.left) y in
    let row = next_row c.args.tones.now _ c.in-Some.row.now _ w n (r.bottom - r.top) c.requires.count down was.rest by.0.1.0 was.size by.0.1.1 in
    let over = put_over c.loop-row.memory _ (map (λ t. k.row (k.counted t)) c.in-Some.row.now) c.cell-at.result (length c.in-Some.row.now) c.lay_row.ensures (sym (length-map c.in-Some.row.now (λ t. k.row (k.counted t)))) in
    record {
      done = laid_more k c.args.frame.size r.left r.top w c.args.tones.now c.args.memory.now n _ _ _ c.in-Some.row.now was.done at row.next over ∙ ap (laid k c.args.frame.size r.left r.top w c.args.tones.now c.args.memory.now) (sym more);
      rest = row.rest ∙ ap (λ i. drop (i * w) c.args.tones.now) (sym more);
      size = by.0.0 ∙ was.size;
      row = omega (arith, by, was.row, more);
      end = by.1.0 ∙ was.end;
      within = omega (arith, down, more);
    }

pub returns : goal.returns
returns g c =
    let r = c.args.rect in
    let n = length c.loop-row.yielded in
    let w = r.right - r.left in
    let was = c.loop-row.invariant in
    let it = c.loop-row.row-iterator in
    let wide : 1 ≤ w = omega (arith, c.requires.rect.columns) in
    let end : r.bottom - r.top ≤ n = ⊎_elim (λ p. rows_came c.args.tones.now w n (r.bottom - r.top) wide c.requires.count (ap length (sym was.rest) ∙ p.1.1.0)) (λ p. let gone : (zip_second it).end - (zip_second it).start ≡ 0 = p.1.1.0 in omega (arith, gone, was.row, was.end)) c.in-None.ensures.steps in
    let all : n ≡ r.bottom - r.top = omega (arith, end, was.within) in
    was.done ∙ ap (laid g.T.Tone.kind c.args.frame.size r.left r.top w c.args.tones.now c.args.memory.now) all
