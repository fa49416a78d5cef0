use Rattle.std.proofs.Common.{rules, ◌≡◌, ℕ, length, get_or, Some, None, Ok, Err, sym, refl, ap, ◌∙◌, subst, arith}
use Rattle.std.specs.Result.{result_map_both}
use mathlib.Core.Path.{fun_ext}
use Rattle.selectors.specs.declared.median.MedianRefusal.TheVariants.{Refused, NoEntries}
use Rattle.selectors.specs.declared.refusals.PutRefusal.{PutRefusal}
use Rattle.selectors.specs.Bag.{below, added}
use Rattle.selectors.specs.Calls.{put_number, put_refusal, Selected}
use Rattle.selectors.specs.Entries.{blank, weigh}
use Rattle.selectors.specs.Median.{AllPut}
use Rattle.selectors.proofs.Ranks.{one_answer, answer_has_weight}
use Rattle.selectors.proofs.Weighing.{weigh_zero}
use Rattle.selectors.proofs.Medians.{put_next, weigh_next, all_put_more, median_end}
use Rattle.selectors.proofs.median.weighted_median.Goals as goal

pub loop-index-init : goal.loop-index-init
loop-index-init g c = (c.empty.ensures.in_order, refl, λ d. c.empty.ensures.weights d ∙ sym (weigh_zero c.args.entries.now d), λ i l. absurd (omega arith))

pub returns-in_err-map_err : goal.returns-in_err-map_err
returns-in_err-map_err g c =
    let s = g.S.Selector in
    let es = c.args.entries.now in
    let i = c.loop-index.index-counter in
    let inv = c.loop-index.invariant in
    let keep = c.empty.ensures.range_kept in
    let range : s.range c.loop-index.selector ≡ s.range c.args.selector.now = inv.1 ∙ keep in
    let put = c.put.ensures in
    let told : (e : PutRefusal) × (c.put.result ≡ Err e) × (c.from_residual.result ≡ Err (Refused i e)) = search rules in
    let answer : Some (put_number told.0) ≡ put_refusal (s.weight c.loop-index.selector) (s.range c.loop-index.selector) (get_or es i blank).code (get_or es i blank).weight = rw told.1 at put.answer in
    let kept : (d : ℕ) → s.weight c.put.new.self d ≡ s.weight c.loop-index.selector d = λ d. rw told.1 at (put.weights d) in
    rw told.2 (record {
      answer = (c.loop-index-test.true, subst (λ R. AllPut es R i) keep inv.3, put_next es (s.weight c.loop-index.selector) (s.range c.loop-index.selector) (s.range c.args.selector.now) i (Some (put_number told.0)) inv.2 range answer);
      weights = λ d. kept d ∙ inv.2 d;
      range_kept = put.range_kept ∙ range;
      in_order = put.in_order;
      one_answer = one_answer;
      has_weight = answer_has_weight;
    })

pub loop-index-preserved : goal.loop-index-preserved
loop-index-preserved g c =
    let s = g.S.Selector in
    let es = c.args.entries.now in
    let i = c.loop-index.index-counter in
    let inv = c.loop-index.invariant in
    let put = c.put.ensures in
    let code = (get_or es i blank).code in
    let a = (get_or es i blank).weight in
    let ok : c.put.result ≡ Ok tt = search rules in
    let answer : None ≡ put_refusal (s.weight c.loop-index.selector) (s.range c.loop-index.selector) code a = rw ok at put.answer in
    let more : (d : ℕ) → s.weight c.put.new.self d ≡ added (s.weight c.loop-index.selector) code a d = λ d. rw ok at (put.weights d) in (
      put.in_order,
      put.range_kept ∙ inv.1,
      λ d. more d ∙ ap (λ w. added w code a d) (fun_ext inv.2) ∙ sym (weigh_next es i d),
      all_put_more es (s.range c.empty.new.self) i inv.3 (put_next es (s.weight c.loop-index.selector) (s.range c.loop-index.selector) (s.range c.empty.new.self) i None inv.2 inv.1 answer),
    )

pub returns : goal.returns
returns g c =
    let s = g.S.Selector in
    let es = c.args.entries.now in
    let n = length es in
    let inv = c.loop-index.invariant in
    let keep = c.empty.ensures.range_kept in
    let sel = c.loop-index.selector in
    let range : s.range sel ≡ s.range c.args.selector.now = inv.1 ∙ keep in
    let end : c.loop-index.index-counter ≡ n = omega arith in
    let bag : s.weight sel ≡ weigh es n = fun_ext inv.2 ∙ ap (weigh es) end in
    let taken : AllPut es (s.range c.args.selector.now) n = subst (λ R. AllPut es R n) keep (subst (AllPut es (s.range c.empty.new.self)) end inv.3) in
    let whole : c.total.result ≡ below (s.weight sel) (s.range c.args.selector.now) = c.total.ensures.answer ∙ ap (below (s.weight sel)) range in
    let chosen = subst (λ R. Selected (s.weight sel) R c.div_ceil-half.result c.select.result) range c.select.ensures.answer in
    let fin = median_end es (s.weight sel) (s.range c.args.selector.now) c.total.result c.div_ceil-half.result c.select.result taken bag whole (omega arith) chosen in
    let told : c.map_err-2.result ≡ result_map_both (λ n. n) (λ _. NoEntries) c.select.result = search rules in
    rw told (record {
      answer = fin.0;
      weights = fin.1;
      range_kept = range;
      in_order = inv.0;
      one_answer = one_answer;
      has_weight = answer_has_weight;
    })
