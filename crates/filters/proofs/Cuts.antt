-- With all amounts 0 the stages go with cutting at any tone. Assumes nothing.
use Rattle.std.proofs.Common.{◌≡◌, ℕ, ◌<◌, ◌≤◌, Bool, true, false, ◌&&◌, ltb, leb, List, [], ◌∷◌, ℤ, pos, negsuc, nat_abs, sym, refl, ap, ◌∙◌, ⊎_elim, arith}
use Rattle.std.specs.List.{AllByRecursion}
use Rattle.std.proofs.ByRecursion.{All-weaker}
use Rattle.std.proofs.lemmas.Bool.{cases_lt, and_parts, leb-true, le-leb, lt-leb}
use Rattle.std.proofs.lemmas.Bool.Decides.{nat_tests}
use Rattle.planes.specs.declared.size.Size.{Size}
use Rattle.recipes.specs.declared.places.Place.{Place}
use Rattle.recipes.specs.declared.recipe.Operation.{Operation}
use Rattle.recipes.specs.declared.recipe.Operation.TheVariants.{Erosion, Dilation}
use Rattle.recipes.specs.declared.recipe.Stage.{Stage}
use Rattle.recipes.specs.Placed.{placed}
use Rattle.recipes.specs.Recipes.{places_within, amounts_within}
use Rattle.selectors.specs.Bag.{below}
use Rattle.stages.specs.Stages.{Picture, target, rank_of, inside, read, bag, rank, cleaned, made, shifted}
use Rattle.tones.specs.declared.marks.Mark.{Mark}
use Rattle.tones.specs.Kind.{Kind, Laws}
use Rattle.tones.specs.MarkLaws.{mark_laws}
use Rattle.tones.specs.Marks.{marks, mark, mark_code}
use Rattle.filters.specs.Morphology.{On, cut, GoesWithCuts}
use Rattle.filters.proofs.Masses.{mass_same}
use Rattle.filters.proofs.Counting.{is_yes, is_no}
use Rattle.filters.proofs.Windows.{inside_on, under, weighs, below_bag, total_is, reaches, falls_short}

-- the amounts of places within a span
pub amounts : (span : ℕ) (ps : List Place) → places_within span ps ≡ true → AllByRecursion (λ p. nat_abs p.amount ≤ span) ps
amounts span [] h = tt
amounts span (p ∷ ps) h =
    let two = and_parts (leb (nat_abs p.amount) span) (places_within span ps) h in
    (leb-true (nat_abs p.amount) span two.0, amounts span ps two.1)

pub nought : (a : ℤ) → nat_abs a ≤ 0 → a ≡ pos 0
nought (pos n) h = let e : n ≡ 0 = omega arith in ap pos e
nought (negsuc n) h = absurd (omega arith)

shifted_still : {T R : Type 0} (K : Kind T R) → Laws K → (o : Operation) (t : T) (a : ℤ) → nat_abs a ≤ 0 → shifted K o t a ≡ t
shifted_still K law Erosion t a h = rw (nought a h) (law.still t)
shifted_still K law Dilation t a h = rw (nought a h) (law.still t)

shifted_mark : (o : Operation) (m : Mark) (a : ℤ) → shifted marks o m a ≡ m
shifted_mark Erosion m a = refl
shifted_mark Dilation m a = refl

cut_code : (a b : ℕ) → ltb (mark_code (mark (leb a b))) 1 ≡ ltb b a
cut_code a b = go (leb a b) refl
  where
    go : (t : Bool) → leb a b ≡ t → ltb (mark_code (mark t)) 1 ≡ ltb b a
    go true e = grind (arith, nat_tests)
    go false e = grind (arith, nat_tests)

gated : (b s t : Bool) → (b ≡ true → s ≡ t) → (b && s) ≡ (b && t)
gated true s t h = h refl
gated false s t h = refl

module _ {T R : Type 0} (K : Kind T R) (law : Laws K) (size : Size) (t : T) where
  -- g is f cut at t, on the card
  abbrev Cut : Picture T → Picture Mark → Type 0
  Cut f g = (x y : ℕ) → On size x y → cut K t f x y ≡ g x y

  stage_cut : (s : Stage) → places_within 0 (placed s.element) ≡ true → (f : Picture T) (g : Picture Mark) → Cut f g → Cut (λ x y. cleaned K size s f x y) (λ x y. cleaned marks size s g x y)
  stage_cut s zeros f g same x y on = ⊎_elim
      (λ (l : below (bag K size s f x y) (K.code t) < rank K size s f x y).
      ap mark (le-leb (K.code t) (K.code (cleaned K size s f x y)) (reaches K size s f x y law on (K.code t) l))
      ∙ sym (is_yes (cleaned marks size s g x y) (reaches marks size s g x y mark_laws on 1 (omega (arith, less, ranks)))))
      (λ (l : rank K size s f x y ≤ below (bag K size s f x y) (K.code t)).
      ap mark (lt-leb (K.code t) (K.code (cleaned K size s f x y)) (falls_short K size s f x y law on (K.code t) l))
      ∙ sym (is_no (cleaned marks size s g x y) (falls_short marks size s g x y mark_laws on 1 (omega (arith, less, ranks)))))
      (cases_lt (below (bag K size s f x y) (K.code t)) (rank K size s f x y))
    where
      ps : List Place
      ps = placed s.element

      alike : (p : Place) → nat_abs p.amount ≤ 0 → under marks size s g x y 1 p ≡ under K size s f x y (K.code t) p
      alike p zero-amount = gated (inside K size s f x y p) _ _ (λ i.
          let at = (inside_on size (target s.operation x p.dx) (target s.operation y p.dy) i).0 in
          ap (λ m. ltb (mark_code m) 1) (shifted_mark s.operation (read marks size s g x y p) p.amount ∙ sym (same _ _ at))
          ∙ (cut_code (K.code t) (K.code (read K size s f x y p))
          ∙ ap (λ u. ltb (K.code u) (K.code t)) (sym (shifted_still K law s.operation (read K size s f x y p) p.amount zero-amount))))

      less : below (bag marks size s g x y) 1 ≡ below (bag K size s f x y) (K.code t)
      less = below_bag marks size s g x y 1 ∙ (mass_same (weighs K size s f x y) (under marks size s g x y 1) (under K size s f x y (K.code t)) ps (All-weaker (λ p. nat_abs p.amount ≤ 0) _ alike ps (amounts 0 ps zeros)) ∙ sym (below_bag K size s f x y (K.code t)))

      ranks : rank marks size s g x y ≡ rank K size s f x y
      ranks = ap (rank_of s.operation s.element.order) (total_is marks size s g x y mark_laws ∙ sym (total_is K size s f x y law))

  made_cut : (ss : List Stage) → amounts_within 0 ss ≡ true → (f : Picture T) (g : Picture Mark) → Cut f g → Cut (made K size ss f) (made marks size ss g)
  unfolding made
  made_cut [] zeros f g same = same
  made_cut (s ∷ ss) zeros f g same =
      let two = and_parts (places_within 0 (placed s.element)) (amounts_within 0 ss) zeros in
      made_cut ss two.1 (λ x y. cleaned K size s f x y) (λ x y. cleaned marks size s g x y) (stage_cut s two.0 f g same)

pub goes_with_cuts : {T R : Type 0} (K : Kind T R) → Laws K → GoesWithCuts K
goes_with_cuts K law size ss zeros t f = made_cut K law size t ss zeros f (cut K t f) (λ x y _. refl)
