-- What the codes of a window below a threshold weigh, and its rank. Assumes nothing.
use Rattle.std.proofs.Common.{◌≡◌, ℕ, ◌+◌, ◌<◌, ◌≤◌, Bool, true, false, cond, ◌&&◌, ltb, List, [], ◌∷◌, ℤ, pos, negsuc, nat_abs, sym, refl, ap, ◌∙◌, ⊎_elim, arith}
use Rattle.std.specs.List.{ContainsAt as Has}
use Rattle.std.proofs.ByRecursion.{All-weaker, all_has_itself}
use Rattle.std.proofs.lemmas.Bool.{cases_lt, and_parts, lt-ltb, ltb-true, false≢true}
use Rattle.planes.specs.declared.size.Size.{Size}
use Rattle.recipes.specs.declared.places.Place.{Place}
use Rattle.recipes.specs.declared.recipe.Stage.{Stage}
use Rattle.recipes.specs.Placed.{placed}
use Rattle.selectors.specs.Bag.{below, Ranked}
use Rattle.selectors.proofs.Ranks.{ranked_one}
use Rattle.selectors.proofs.Sums.{below_none}
use Rattle.stages.specs.Stages.{Picture, on_card, weight, inside, code_at, adds, window, bag, total, rank, ranked_code, cleaned}
use Rattle.stages.proofs.Cleaning.{rank_some, rank_most}
use Rattle.stages.proofs.Ranks.{ranked_is}
use Rattle.stages.proofs.Sums.{below_sum}
use Rattle.tones.specs.Kind.{Kind, Laws}
use Rattle.filters.specs.Morphology.{On, Picks}
use Rattle.filters.proofs.Masses.{mass, mass_same}
use Rattle.filters.proofs.Ranks.{ranked_over, ranked_under, below_single}

-- the pixel that a place inside reads is on the card
on_card_is : (n : ℕ) (z : ℤ) → on_card n z ≡ true → (nat_abs z < n) × (pos (nat_abs z) ≡ z)
on_card_is n (pos x) h = (ltb-true x n h, refl)
on_card_is n (negsuc x) h = absurd (false≢true h)

pub inside_on : (size : Size) (a b : ℤ) → (on_card size.width a && on_card size.height b) ≡ true → On size (nat_abs a) (nat_abs b) × (pos (nat_abs a) ≡ a) × (pos (nat_abs b) ≡ b)
inside_on size a b h =
    let two = and_parts (on_card size.width a) (on_card size.height b) h in
    let u = on_card_is size.width a two.0 in
    let v = on_card_is size.height b two.1 in
    ((u.0, v.0), u.1, v.1)

-- tones of one code are the same
pub same_tone : {T R : Type 0} (K : Kind T R) → Laws K → (t u : T) → K.code u ≡ K.code t → t ≡ u
same_tone K law t u e = sym (law.back t) ∙ (ap K.tone (sym e) ∙ law.back u)

module _ {T R : Type 0} (K : Kind T R) (size : Size) (s : Stage) (f : Picture T) (x y : ℕ) where
  -- a place falls on the card and its code is below n
  abbrev pub under : ℕ → Place → Bool
  under n p = inside K size s f x y p && ltb (code_at K size s f x y p) n

  abbrev pub weighs : Place → ℕ
  weighs p = weight s.element.order p

  pub below_window : (n : ℕ) (ps : List Place) → below (window K size s f x y ps) n ≡ mass weighs (under n) ps
  unfolding mass window
  below_window n [] = below_none (window K size s f x y []) n (λ c _. refl)
  below_window n (p ∷ ps) =
      below_sum (adds K size s f x y p) (window K size s f x y ps) n
      ∙ (ap (λ k. k + below (window K size s f x y ps) n) (below_single (inside K size s f x y p) (code_at K size s f x y p) (weighs p) n)
      ∙ ap (λ k. cond (under n p) (weighs p) 0 + k) (below_window n ps))

  pub below_bag : (n : ℕ) → below (bag K size s f x y) n ≡ mass weighs (under n) (placed s.element)
  below_bag n = below_window n (placed s.element)

  module _ (law : Laws K) where
    -- the total is the weight of the places that fall on the card
    pub total_is : total K size s f x y ≡ mass weighs (inside K size s f x y) (placed s.element)
    total_is = below_bag K.count ∙ mass_same weighs (under K.count) (inside K size s f x y) (placed s.element)
        (All-weaker (Has (placed s.element)) _ (λ p _. rw (lt-ltb (code_at K size s f x y p) K.count (law.within _)) (and_true (inside K size s f x y p))) (placed s.element) (all_has_itself (placed s.element)))
      where
        and_true : (b : Bool) → (b && true) ≡ b
        and_true true = refl
        and_true false = refl

    module _ (on : On size x y) where
      pub picked : Ranked (bag K size s f x y) (rank K size s f x y) (K.code (cleaned K size s f x y))
      unfolding cleaned
      picked =
          let h = ranked_is (bag K size s f x y) (rank K size s f x y) K.count (rank_some K law size s f x y on.0 on.1) (rank_most K law size s f x y on.0 on.1) in
          rw (law.there (ranked_code (bag K size s f x y) (rank K size s f x y) K.count) h.1) h.0

      -- a tone whose code is at that rank is the tone
      pub picked_one : (t : T) → Ranked (bag K size s f x y) (rank K size s f x y) (K.code t) → cleaned K size s f x y ≡ t
      picked_one t h = same_tone K law _ _ (ranked_one (bag K size s f x y) (rank K size s f x y) _ _ h picked)

      -- its code reaches a threshold just if the codes below that fall short of the rank
      pub reaches : (t : ℕ) → below (bag K size s f x y) t < rank K size s f x y → t ≤ K.code (cleaned K size s f x y)
      reaches t l = ⊎_elim (λ (c : K.code (cleaned K size s f x y) < t). absurd (omega (arith, ranked_over (bag K size s f x y) (rank K size s f x y) _ t picked c))) (λ c. c) (cases_lt (K.code (cleaned K size s f x y)) t)

      pub falls_short : (t : ℕ) → rank K size s f x y ≤ below (bag K size s f x y) t → K.code (cleaned K size s f x y) < t
      falls_short t l = ranked_under (bag K size s f x y) (rank K size s f x y) _ t (rank_some K law size s f x y on.0 on.1) picked l

pub picks : {T R : Type 0} (K : Kind T R) → Laws K → Picks K
picks K law size s f x y on = picked K size s f x y law on
