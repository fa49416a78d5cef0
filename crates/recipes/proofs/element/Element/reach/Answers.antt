use Rattle.std.proofs.Common.{◌≡◌, max, nat_abs, ap, ◌∙◌, arith, rules}
use Rattle.std.proofs.lemmas.Fn.{fronts, fold_over, slice_gives}
use Rattle.recipes.specs.Placed.{placed}
use Rattle.recipes.specs.Reaches.{reach}
use Rattle.recipes.proofs.Elements.{reach_push, element_reach, element_near}
use Rattle.recipes.proofs.element.Element.reach.Goals as goal

pub returns : goal.returns
unfolding reach
returns c =
    let e = c.args.self.now in
    let both =
    fold_over fronts (λ y. y.now) _ (λ ps r. (r.x ≡ reach (λ p. p.dx) ps) × (r.y ≡ reach (λ p. p.dy) ps)) _
    (λ ps a x b f' j k.
    let one : (b.x ≡ max a.x (nat_abs x.now.dx)) × (b.y ≡ max a.y (nat_abs x.now.dy)) = search rules in
    ((omega (arith, reach_push (λ p. p.dx) ps x.now), omega (arith, reach_push (λ p. p.dy) ps x.now)), search rules))
    c.iter.result c.iter.result.rest.now _ _ (slice_gives c.iter.result) (search rules) c.fold.ensures.ran in
    let read = c.iter.ensures.rest ∙ c.places.ensures.places in
    let x : c.fold.result.x ≡ reach (λ p. p.dx) (placed e) = both.0 ∙ ap (reach (λ p. p.dx)) read in
    let y : c.fold.result.y ≡ reach (λ p. p.dy) (placed e) = both.1 ∙ ap (reach (λ p. p.dy)) read in
    record {
      across = x;
      down = y;
      greatest_across = element_reach (λ p. p.dx) e _ x;
      greatest_down = element_reach (λ p. p.dy) e _ y;
      near = (element_near (λ p. p.dx) e _ x (λ p l. l.across), element_near (λ p. p.dy) e _ y (λ p l. l.down));
    }
