use Rattle.std.proofs.Common.{◌<◌, ◌∷◌, [], ◌++◌, length, refl, sym, ap, ◌∙◌, arith, rules}
use Rattle.std.proofs.lemmas.Iterator.{YieldsList-from_range, YieldsList-from_map}
use Rattle.std.proofs.lemmas.Iterator.Consumers.{YieldsList-from_filter, YieldsList-turn, YieldsList-end}
use Rattle.std.proofs.lemmas.List.{length-set, length_push, take_more_set, map-id}
use Rattle.recipes.specs.Lawful.{lawful}
use Rattle.recipes.specs.Shapes.{in_shape}
use Rattle.recipes.proofs.Grid.{cell_place, shape_counted, shape_few, shape_lawful}
use Rattle.recipes.proofs.shapes.Shape.element.Goals as goal

pub bounds-places-count : goal.bounds-places-count
bounds-places-count c =
    let t =
    YieldsList-turn
    (YieldsList-from_filter _ (λ p. in_shape c.args.self p.dx p.dy) {f = c.filter-place-items.result.p} (YieldsList-from_map _ cell_place (YieldsList-from_range 0 49 49 (cc) refl) (cc) (λ x r q k. search rules)) (cc) (λ x b q k. search rules))
    c.loop-place.yielded _ c.loop-place.yielded_by _ _ c.in-Some.place c.in-Some.is c.next.ensures.steps in
    omega (arith, t.0, ap length (shape_counted c.args.self), shape_few c.args.self, c.loop-place.invariant.3)

pub loop-place-preserved : goal.loop-place-preserved
loop-place-preserved c =
    let t =
    YieldsList-turn
    (YieldsList-from_filter _ (λ p. in_shape c.args.self p.dx p.dy) {f = c.filter-place-items.result.p} (YieldsList-from_map _ cell_place (YieldsList-from_range 0 49 49 (cc) refl) (cc) (λ x r q k. search rules)) (cc) (λ x b q k. search rules))
    c.loop-place.yielded _ c.loop-place.yielded_by _ _ c.in-Some.place c.in-Some.is c.next.ensures.steps in
    let room : c.loop-place.count < length c.loop-place.places = omega (arith, t.0, ap length (shape_counted c.args.self), shape_few c.args.self, c.loop-place.invariant.2, c.loop-place.invariant.3) in (
      search rules,
      search rules,
      length-set _ _ _ ∙ c.loop-place.invariant.2,
      omega (arith, length_push c.loop-place.yielded c.in-Some.place, c.loop-place.invariant.3),
      take_more_set c.loop-place.places c.loop-place.count c.in-Some.place room ∙ ap (λ ps. ps ++ c.in-Some.place ∷ []) c.loop-place.invariant.4,
    )

pub invariant_of-result : goal.invariant_of-result
invariant_of-result c =
    let t =
    YieldsList-end
    (YieldsList-from_filter _ (λ p. in_shape c.args.self p.dx p.dy) {f = c.filter-place-items.result.p} (YieldsList-from_map _ cell_place (YieldsList-from_range 0 49 49 (cc) refl) (cc) (λ x r q k. search rules)) (cc) (λ x b q k. search rules))
    c.loop-place.yielded _ c.loop-place.yielded_by _ _ c.in-None.is c.next.ensures.steps in
    let all = c.loop-place.invariant.4 ∙ sym (map-id c.loop-place.yielded) ∙ t.0 ∙ shape_counted c.args.self in
    record {
      long = c.loop-place.invariant.2;
      within = omega (arith, t.1, ap length (shape_counted c.args.self), shape_few c.args.self, c.loop-place.invariant.3);
      sound = ap (λ ps. lawful ps 1) all ∙ shape_lawful c.args.self;
    }

pub returns : goal.returns
returns c =
    let t =
    YieldsList-end
    (YieldsList-from_filter _ (λ p. in_shape c.args.self p.dx p.dy) {f = c.filter-place-items.result.p} (YieldsList-from_map _ cell_place (YieldsList-from_range 0 49 49 (cc) refl) (cc) (λ x r q k. search rules)) (cc) (λ x b q k. search rules))
    c.loop-place.yielded _ c.loop-place.yielded_by _ _ c.in-None.is c.next.ensures.steps in
    record { places = c.loop-place.invariant.4 ∙ sym (map-id c.loop-place.yielded) ∙ t.0 ∙ shape_counted c.args.self; order = refl }
