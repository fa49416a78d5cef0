-- A stage is the k-th smallest or the k-th largest of whole numbers, held to the range. Assumes nothing.
use Rattle.std.proofs.Common.{◌≡◌, ℕ, zero, suc, ◌-◌, ◌<◌, ◌≤◌, Bool, true, false, not, ◌&&◌, ltb, List, ℤ, pos, negsuc, ◌+ℤ◌, ◌-ℤ◌, neg_ℤ, nat_abs, ◌≤ℤ◌, sym, refl, ap, ◌∙◌, subst, ⊎_elim, arith}
use lib.Signed.{lt_z, le_z}
use Rattle.std.specs.List.{ContainsAt as Has, AllByRecursion}
use Rattle.std.proofs.ByRecursion.{All-weaker, all-has}
use Rattle.std.proofs.lemmas.Int.{ints}
use Rattle.std.proofs.lemmas.Bool.{cases_Bool, lt-ltb, ltb-true, ltb-false, le-ltb, not-true, not_from_false}
use Rattle.planes.specs.declared.size.Size.{Size}
use Rattle.recipes.specs.declared.places.Place.{Place}
use Rattle.recipes.specs.declared.recipe.Operation.{Operation}
use Rattle.recipes.specs.declared.recipe.Operation.TheVariants.{Erosion, Dilation}
use Rattle.recipes.specs.declared.recipe.Stage.{Stage}
use Rattle.recipes.specs.Placed.{placed}
use Rattle.recipes.proofs.Elements.{order_positive}
use Rattle.selectors.specs.Bag.{below}
use Rattle.selectors.proofs.Ranks.{ranked_from}
use Rattle.stages.specs.Stages.{Picture, rank_of, inside, read, code_at, bag, total, rank, cleaned, shifted}
use Rattle.stages.proofs.Cleaning.{total_least}
use Rattle.tones.specs.Kind.{Kind, Laws, nearest}
use Rattle.tones.specs.Whole.{WholeNumbers}
use Rattle.filters.specs.Orders.{Kth}
use Rattle.filters.specs.Morphology.{On, moved, difference, differences, SoftMorphology}
use Rattle.filters.proofs.Cuts.{amounts}
use Rattle.filters.proofs.Masses.{mass, mass_le, mass_split}
use Rattle.filters.proofs.Windows.{under, weighs, below_bag, total_is, picked_one}
use Rattle.filters.proofs.Numbers.{nearest_keeps, le_from, le_from_not}
use Rattle.filters.proofs.Choices.{passing, count_given, smallest, largest, kth_given}

gate : (b s t : Bool) → (s ≡ true → t ≡ true) → (b && s) ≡ true → (b && t) ≡ true
gate true s t h e = h e
gate false s t h e = e

-- the places on the card whose difference or sum passes a test
module _ {T R : Type 0} (K : Kind T R) (value : T → ℤ) (size : Size) (s : Stage) (f : Picture T) (x y : ℕ) where
  abbrev passes : (ℤ → Bool) → Place → Bool
  passes = passing K size s f x y (difference K size s f x y value)

module _ {T R : Type 0} (K : Kind T R) (low high : ℤ) (value : T → ℤ) (whole : WholeNumbers K low high value) where
  shifted_value : (o : Operation) (t : T) (a : ℤ) → nat_abs a ≤ K.span → value (shifted K o t a) ≡ nearest low high (moved o (value t) a)
  shifted_value Erosion t a h = whole.lowering t a h
  shifted_value Dilation t a h =
      let e : value t -ℤ neg_ℤ a ≡ value t +ℤ a = omega (arith, ints) in
      whole.lowering t (neg_ℤ a) (turned a h) ∙ ap (nearest low high) e
    where
      turned : (a : ℤ) → nat_abs a ≤ K.span → nat_abs (neg_ℤ a) ≤ K.span
      turned (pos zero) h = h
      turned (pos (suc n)) h = h
      turned (negsuc n) h = h

  -- codes have the order of the numbers before they are held
  shifted_order : (o : Operation) (t u : T) (a b : ℤ) → nat_abs a ≤ K.span → nat_abs b ≤ K.span → moved o (value t) a ≤ℤ moved o (value u) b → K.code (shifted K o t a) ≤ K.code (shifted K o u b)
  shifted_order o t u a b ha hb h = (whole.order (shifted K o t a) (shifted K o u b)).1 (rw (shifted_value o t a ha, shifted_value o u b hb) (nearest_keeps low high (moved o (value t) a) (moved o (value u) b) h))

  module _ (size : Size) (s : Stage) (f : Picture T) (x y : ℕ) (q : Place) (near : nat_abs q.amount ≤ K.span) where
    -- codes beside that of the place q, by the numbers beside its number
    up : (p : Place) → nat_abs p.amount ≤ K.span → difference K size s f x y value q ≤ℤ difference K size s f x y value p → code_at K size s f x y q ≤ code_at K size s f x y p
    up p h l = shifted_order s.operation (read K size s f x y q) (read K size s f x y p) q.amount p.amount near h l

    down : (p : Place) → nat_abs p.amount ≤ K.span → difference K size s f x y value p ≤ℤ difference K size s f x y value q → code_at K size s f x y p ≤ code_at K size s f x y q
    down p h l = shifted_order s.operation (read K size s f x y p) (read K size s f x y q) p.amount q.amount h near l

    strictly_below : (p : Place) → nat_abs p.amount ≤ K.span → ltb (code_at K size s f x y p) (code_at K size s f x y q) ≡ true → lt_z (difference K size s f x y value p) (difference K size s f x y value q) ≡ true
    strictly_below p h e = ⊎_elim (λ t. t) (λ (t : lt_z (difference K size s f x y value p) (difference K size s f x y value q) ≡ false). absurd (omega (arith, up p h (le_from_not (difference K size s f x y value p) (difference K size s f x y value q) t), ltb-true (code_at K size s f x y p) (code_at K size s f x y q) e))) (cases_Bool (lt_z (difference K size s f x y value p) (difference K size s f x y value q)))

    up_to : (p : Place) → nat_abs p.amount ≤ K.span → le_z (difference K size s f x y value p) (difference K size s f x y value q) ≡ true → ltb (code_at K size s f x y p) (suc (code_at K size s f x y q)) ≡ true
    up_to p h e = lt-ltb (code_at K size s f x y p) (suc (code_at K size s f x y q)) (omega (arith, down p h (le_from (difference K size s f x y value p) (difference K size s f x y value q) e)))

    from_there : (p : Place) → nat_abs p.amount ≤ K.span → le_z (difference K size s f x y value q) (difference K size s f x y value p) ≡ true → not (ltb (code_at K size s f x y p) (code_at K size s f x y q)) ≡ true
    from_there p h e = not_from_false (ltb (code_at K size s f x y p) (code_at K size s f x y q)) (le-ltb (code_at K size s f x y p) (code_at K size s f x y q) (up p h (le_from (difference K size s f x y value q) (difference K size s f x y value p) e)))

    strictly_above : (p : Place) → nat_abs p.amount ≤ K.span → not (ltb (code_at K size s f x y p) (suc (code_at K size s f x y q))) ≡ true → lt_z (difference K size s f x y value q) (difference K size s f x y value p) ≡ true
    strictly_above p h e = ⊎_elim (λ t. t) (λ (t : lt_z (difference K size s f x y value q) (difference K size s f x y value p) ≡ false). absurd (omega (arith, down p h (le_from_not (difference K size s f x y value q) (difference K size s f x y value p) t), ltb-false (code_at K size s f x y p) (suc (code_at K size s f x y q)) (not-true (ltb (code_at K size s f x y p) (suc (code_at K size s f x y q))) e)))) (cases_Bool (lt_z (difference K size s f x y value q) (difference K size s f x y value p)))

    -- so the code of q is at the rank
    module _ (k : ℕ) (ps : List Place) (fit : AllByRecursion (λ p. nat_abs p.amount ≤ K.span) ps) where
      eroded : mass (weighs K size s f x y) (passes K value size s f x y (λ i. lt_z i (difference K size s f x y value q))) ps < k → k ≤ mass (weighs K size s f x y) (passes K value size s f x y (λ i. le_z i (difference K size s f x y value q))) ps → (mass (weighs K size s f x y) (under K size s f x y (code_at K size s f x y q)) ps < k) × (k ≤ mass (weighs K size s f x y) (under K size s f x y (suc (code_at K size s f x y q))) ps)
      eroded few enough =
          let a = mass_le (weighs K size s f x y) (under K size s f x y (code_at K size s f x y q)) (passes K value size s f x y (λ i. lt_z i (difference K size s f x y value q))) ps (All-weaker (λ p. nat_abs p.amount ≤ K.span) _ (λ p h. gate (inside K size s f x y p) _ _ (strictly_below p h)) ps fit) in
          let b = mass_le (weighs K size s f x y) (passes K value size s f x y (λ i. le_z i (difference K size s f x y value q))) (under K size s f x y (suc (code_at K size s f x y q))) ps (All-weaker (λ p. nat_abs p.amount ≤ K.span) _ (λ p h. gate (inside K size s f x y p) _ _ (up_to p h)) ps fit) in
          (omega (arith, a), omega (arith, b))

      dilated : k ≤ mass (weighs K size s f x y) (inside K size s f x y) ps → mass (weighs K size s f x y) (passes K value size s f x y (λ i. lt_z (difference K size s f x y value q) i)) ps < k → k ≤ mass (weighs K size s f x y) (passes K value size s f x y (λ i. le_z (difference K size s f x y value q) i)) ps → (mass (weighs K size s f x y) (under K size s f x y (code_at K size s f x y q)) ps < suc (mass (weighs K size s f x y) (inside K size s f x y) ps - k)) × (suc (mass (weighs K size s f x y) (inside K size s f x y) ps - k) ≤ mass (weighs K size s f x y) (under K size s f x y (suc (code_at K size s f x y q))) ps)
      dilated whole-enough few enough =
          let a = mass_le (weighs K size s f x y) (passes K value size s f x y (λ i. le_z (difference K size s f x y value q) i)) (λ p. inside K size s f x y p && not (ltb (code_at K size s f x y p) (code_at K size s f x y q))) ps (All-weaker (λ p. nat_abs p.amount ≤ K.span) _ (λ p h. gate (inside K size s f x y p) _ _ (from_there p h)) ps fit) in
          let b = mass_le (weighs K size s f x y) (λ p. inside K size s f x y p && not (ltb (code_at K size s f x y p) (suc (code_at K size s f x y q)))) (passes K value size s f x y (λ i. lt_z (difference K size s f x y value q) i)) ps (All-weaker (λ p. nat_abs p.amount ≤ K.span) _ (λ p h. gate (inside K size s f x y p) _ _ (strictly_above p h)) ps fit) in
          let c = mass_split (weighs K size s f x y) (inside K size s f x y) (λ p. ltb (code_at K size s f x y p) (code_at K size s f x y q)) ps in
          let d = mass_split (weighs K size s f x y) (inside K size s f x y) (λ p. ltb (code_at K size s f x y p) (suc (code_at K size s f x y q))) ps in
          (omega (arith, a, c), omega (arith, b, d))

  module _ (law : Laws K) (size : Size) (s : Stage) (f : Picture T) (x y : ℕ) (on : On size x y) (fit : AllByRecursion (λ p. nat_abs p.amount ≤ K.span) (placed s.element)) where
    enough_weight : s.element.order ≤ mass (weighs K size s f x y) (inside K size s f x y) (placed s.element)
    enough_weight = omega (arith, total_least K law size s f x y on.0 on.1, total_is K size s f x y law)

    -- a place whose code is at the rank gives the result
    result_at : (q : Place) → nat_abs q.amount ≤ K.span → (z : ℤ) → difference K size s f x y value q ≡ z → below (bag K size s f x y) (code_at K size s f x y q) < rank K size s f x y → rank K size s f x y ≤ below (bag K size s f x y) (suc (code_at K size s f x y q)) → value (cleaned K size s f x y) ≡ nearest low high z
    result_at q near z e few enough =
        ap value (picked_one K size s f x y law on (shifted K s.operation (read K size s f x y q) q.amount) (ranked_from (bag K size s f x y) (rank K size s f x y) (code_at K size s f x y q) few enough))
        ∙ (shifted_value s.operation (read K size s f x y q) q.amount near ∙ ap (nearest low high) e)

    erosion_at : s.operation ≡ Erosion → (q : Place) → nat_abs q.amount ≤ K.span → (z : ℤ) → difference K size s f x y value q ≡ z → mass (weighs K size s f x y) (passes K value size s f x y (λ i. lt_z i z)) (placed s.element) < s.element.order → s.element.order ≤ mass (weighs K size s f x y) (passes K value size s f x y (λ i. le_z i z)) (placed s.element) → value (cleaned K size s f x y) ≡ nearest low high z
    erosion_at is q near z e few enough =
        let r : rank K size s f x y ≡ s.element.order = ap (λ o. rank_of o s.element.order (total K size s f x y)) is in
        let m = eroded size s f x y q near s.element.order (placed s.element) fit (subst (λ w. mass (weighs K size s f x y) (passes K value size s f x y (λ i. lt_z i w)) (placed s.element) < s.element.order) (sym e) few) (subst (λ w. s.element.order ≤ mass (weighs K size s f x y) (passes K value size s f x y (λ i. le_z i w)) (placed s.element)) (sym e) enough) in
        result_at q near z e (omega (arith, r, m.0, below_bag K size s f x y (code_at K size s f x y q))) (omega (arith, r, m.1, below_bag K size s f x y (suc (code_at K size s f x y q))))

    dilation_at : s.operation ≡ Dilation → (q : Place) → nat_abs q.amount ≤ K.span → (z : ℤ) → difference K size s f x y value q ≡ z → mass (weighs K size s f x y) (passes K value size s f x y (λ i. lt_z z i)) (placed s.element) < s.element.order → s.element.order ≤ mass (weighs K size s f x y) (passes K value size s f x y (λ i. le_z z i)) (placed s.element) → value (cleaned K size s f x y) ≡ nearest low high z
    dilation_at is q near z e few enough =
        let r : rank K size s f x y ≡ suc (total K size s f x y - s.element.order) = ap (λ o. rank_of o s.element.order (total K size s f x y)) is in
        let m = dilated size s f x y q near s.element.order (placed s.element) fit enough_weight (subst (λ w. mass (weighs K size s f x y) (passes K value size s f x y (λ i. lt_z w i)) (placed s.element) < s.element.order) (sym e) few) (subst (λ w. s.element.order ≤ mass (weighs K size s f x y) (passes K value size s f x y (λ i. le_z w i)) (placed s.element)) (sym e) enough) in
        result_at q near z e (omega (arith, r, m.0, total_is K size s f x y law, below_bag K size s f x y (code_at K size s f x y q))) (omega (arith, r, m.1, total_is K size s f x y law, below_bag K size s f x y (suc (code_at K size s f x y q))))

    near_of : (q : Place) → Has (placed s.element) q → nat_abs q.amount ≤ K.span
    near_of q has = all-has (λ p. nat_abs p.amount ≤ K.span) (placed s.element) q fit has

    eroded_law : s.operation ≡ Erosion → (z : ℤ) × Kth Erosion s.element.order (differences K size s f x y value) z × (value (cleaned K size s f x y) ≡ nearest low high z)
    eroded_law is =
        let number = difference K size s f x y value in
        let at = smallest K size s f x y number s.element.order (placed s.element) (order_positive s.element) enough_weight in
        let kth : Kth Erosion s.element.order (differences K size s f x y value) at.0 = (omega (arith, at.1, count_given K size s f x y number (λ i. lt_z i at.0) (placed s.element)), omega (arith, at.2, count_given K size s f x y number (λ i. le_z i at.0) (placed s.element))) in
        let found = kth_given K size s f x y number Erosion s.element.order (placed s.element) at.0 kth in
        (at.0, kth, erosion_at is found.0 (near_of found.0 found.1) at.0 found.2 at.1 at.2)

    dilated_law : s.operation ≡ Dilation → (z : ℤ) × Kth Dilation s.element.order (differences K size s f x y value) z × (value (cleaned K size s f x y) ≡ nearest low high z)
    dilated_law is =
        let number = difference K size s f x y value in
        let at = largest K size s f x y number s.element.order (placed s.element) (order_positive s.element) enough_weight in
        let kth : Kth Dilation s.element.order (differences K size s f x y value) at.0 = (omega (arith, at.1, count_given K size s f x y number (λ i. lt_z at.0 i) (placed s.element)), omega (arith, at.2, count_given K size s f x y number (λ i. le_z at.0 i) (placed s.element))) in
        let found = kth_given K size s f x y number Dilation s.element.order (placed s.element) at.0 kth in
        (at.0, kth, dilation_at is found.0 (near_of found.0 found.1) at.0 found.2 at.1 at.2)

    pub stage_law : (o : Operation) → s.operation ≡ o → (z : ℤ) × Kth o s.element.order (differences K size s f x y value) z × (value (cleaned K size s f x y) ≡ nearest low high z)
    stage_law Erosion is = eroded_law is
    stage_law Dilation is = dilated_law is

pub soft_morphology : {T R : Type 0} (K : Kind T R) → Laws K → SoftMorphology K
soft_morphology K law low high value whole size s f x y on fit = stage_law K low high value whole law size s f x y on (amounts K.span (placed s.element) fit) s.operation refl
