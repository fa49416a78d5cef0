use Rattle.std.proofs.Common.{rules, arith, ◌≡◌, ◌<◌, [], ◌∷◌, ◌++◌, length, min, None, Err, refl, inl, sym, ap, ◌∙◌, append-nil, append_assoc}
use Rattle.scripts.specs.declared.answers.Fault.TheVariants.{Unknown}
use Rattle.scripts.proofs.Written.{empty, none_written, rows_then}
use Rattle.scripts.proofs.lists.rows_read.Goals as goal

pub loop-part-init : goal.loop-part-init
loop-part-init g c =
    let all = ap (λ parts. parts.rest.now) c.into_iter-part-iterator.ensures.into_iter_gives ∙ c.chunks-part-items.ensures.rest in (
      ap (λ parts. parts.size) c.into_iter-part-iterator.ensures.into_iter_gives ∙ c.chunks-part-items.ensures.size ∙ c.parts.ensures,
      [],
      sym all,
      rw c.new-rows.ensures.items refl,
    )

pub loop-part-preserved : goal.loop-part-preserved
loop-part-preserved g c =
    let part = c.in-Some.part.now in
    let rest = c.next.new.self.rest.now in
    let (size, before, split, says) = c.loop-part.invariant in
    let more : c.push.new.self.items ≡ c.loop-part.rows.items ++ c.in_ok-row.row ∷ [] = search rules in (
      c.in-Some.ensures.steps.0 ∙ size,
      before ++ part,
      split ∙ ap (λ ws. before ++ ws) c.in-Some.ensures.steps.1.0 ∙ sym (append_assoc before part rest),
      rw more (rows_then g.T.Rows.scripted.written before part c.loop-part.rows.items c.in_ok-row.row says (search rules)),
    )

pub returns : goal.returns
returns g c =
    let (size, before, split, says) = c.loop-part.invariant in
    let none = empty c.loop-part.part-iterator.rest.now c.in-None.ensures.steps.1.0 in
    rw (split ∙ ap (λ ws. before ++ ws) none ∙ append-nil before) says

pub returns-in_err-row : goal.returns-in_err-row
returns-in_err-row g c =
    let part = c.in-Some.part.now in
    let rest = c.next.new.self.rest.now in
    let (size, before, split, says) = c.loop-part.invariant in
    let sized = g.met.T.Rows.sized in
    let cut = c.in-Some.ensures.steps.1.0 in
    let short = c.in-Some.ensures.steps.1.1 in
    let long : length part ≡ min g.T.Rows.scripted.count (length (part ++ rest)) = cc (short, size, cut) in
    let some : 0 < length part = omega (arith, long, sized.0, ap length cut, c.in-Some.ensures.steps.1.2) in
    let none : c.read.result ≡ None = search rules in
    let unread : (row : g.row.T-Row.Denot) → g.T.Rows.scripted.written part row → ⊥ = rw none at c.read.ensures in
    let unknown : c.from_residual.result ≡ Err Unknown = search rules in
    let whole = split ∙ ap (λ ws. before ++ ws) cut in
    let written = none_written g.T.Rows.scripted.written g.T.Rows.scripted.count sized in
    rw unknown (inl (refl, λ rows. written before part rest c.args.words.now c.loop-part.rows.items rows says whole some long unread))
