-- What a selector that holds a window gives is what the stage makes of the pixel.
use Rattle.std.proofs.Common.{◌≡◌, ℕ, ◌+◌, ◌<◌, ◌≤◌, true, cond, length, take, ℤ, pos, negsuc, is_ok, Ok, Result, refl, ap, ◌∙◌, subst, arith}
use mathlib.Core.Path.{fun_ext}
use Rattle.std.proofs.lemmas.List.{length-take}
use Rattle.std.proofs.lemmas.Bool.{and_parts, lt-ltb}
use Rattle.planes.specs.declared.size.Size.{Size}
use Rattle.recipes.specs.declared.recipe.Operation.{Operation}
use Rattle.recipes.specs.declared.recipe.Operation.TheVariants.{Erosion, Dilation}
use Rattle.recipes.specs.declared.recipe.Stage.{Stage}
use Rattle.recipes.specs.Placed.{placed}
use Rattle.recipes.specs.Places.{core, same, stands_at}
use Rattle.recipes.proofs.Arrays.{length_placed}
use Rattle.recipes.proofs.Elements.{centre, order_positive}
use Rattle.selectors.specs.Bag.{below, Ranked}
use Rattle.selectors.specs.Calls.{Selected}
use Rattle.selectors.specs.declared.refusals.SelectRefusal.{SelectRefusal}
use Rattle.selectors.proofs.Sums.{below_at, below_cut, below_same, held_same}
use Rattle.selectors.proofs.Ranks.{ranked_one}
use Rattle.tones.specs.Kind.{Kind, Laws}
use Rattle.stages.specs.Stages.{Picture, target, on_card, weight, inside, code_at, adds, window, bag, total, rank, cleaned, rank_of, ranked_code}
use Rattle.stages.specs.Taps.{TakesOneMore}
use Rattle.stages.proofs.Ranks.{ranked_is, rank_positive, rank_within, selected_ok}
use Rattle.stages.proofs.Windows.{adds_own, window_has, window_most, window_few, window_within, weights_most}

-- whole numbers found the same are the same
pub same_is : (a b : ℤ) → same a b ≡ true → a ≡ b
same_is (pos a) (pos b) h = ap pos (Rattle.std.proofs.lemmas.Bool.eqb-true a b h)
same_is (pos a) (negsuc b) h = absurd (let q : ◌≡◌ {A = ℕ} 0 1 = cc in omega arith)
same_is (negsuc a) (pos b) h = absurd (let q : ◌≡◌ {A = ℕ} 0 1 = cc in omega arith)
same_is (negsuc a) (negsuc b) h = ap negsuc (Rattle.std.proofs.lemmas.Bool.eqb-true a b h)

-- the offset 0 reads the pixel itself
pub target_origin : (o : Operation) (x : ℕ) → target o x (pos 0) ≡ pos x
target_origin Erosion x = let e : x + 0 ≡ x = omega arith in ap pos e
target_origin Dilation x = let e : x + 0 ≡ x = omega arith in ap pos e

pub on_card_origin : (o : Operation) (x n : ℕ) (d : ℤ) → d ≡ pos 0 → x < n → on_card n (target o x d) ≡ true
on_card_origin o x n d e h = ap (λ z. on_card n (target o x z)) e ∙ ap (on_card n) (target_origin o x) ∙ lt-ltb x n h

-- a window whose places are not all in yet leaves room for one more
pub takes_one_more : {T R : Type 0} (K : Kind T R) (size : Size) (s : Stage) (f : Picture T) (x y : ℕ) (w : ℕ → ℕ) (i n : ℕ) → i < length (placed s.element) → ((c : ℕ) → w c ≡ window K size s f x y (take i (placed s.element)) c) → TakesOneMore w n
takes_one_more K size s f x y w i n h is =
    let e = s.element in
    let ps = take i (placed e) in
    let long : length ps ≤ 48 = omega (arith, length-take i (placed e), h, length_placed e, e.within) in
    let most = window_most K size s f x y ps n in
    let few = window_few K size s f x y ps n in
    (omega (arith, held_same w (window K size s f x y ps) n (λ c l. is c), few, long), omega (arith, below_same w (window K size s f x y ps) n (λ c l. is c), most, weights_most e ps, long))

module _ {T R : Type 0} (K : Kind T R) (law : Laws K) (size : Size) (s : Stage) (f : Picture T) (x y : ℕ) where
  -- codes above the count add nothing to the total
  pub total_range : (n : ℕ) → K.count ≤ n → below (bag K size s f x y) n ≡ total K size s f x y
  total_range n h = below_cut (bag K size s f x y) (bag K size s f x y) K.count n h (λ c l. refl) (λ c l m. window_within K size s f x y law (placed s.element) c l)

  module _ (across : x < size.width) (down : y < size.height) where
    -- the origin alone weighs k
    pub total_least : s.element.order ≤ total K size s f x y
    total_least =
        let o = centre s.element in
        let p = o.0 in
        let parts = and_parts (stands_at (pos 0) (pos 0) p) (core p) o.2 in
        let at = and_parts (same p.dx (pos 0)) (same p.dy (pos 0)) parts.0 in
        let left : on_card size.width (target s.operation x p.dx) ≡ true = on_card_origin s.operation x size.width p.dx (same_is p.dx (pos 0) at.0) across in
        let top : on_card size.height (target s.operation y p.dy) ≡ true = on_card_origin s.operation y size.height p.dy (same_is p.dy (pos 0) at.1) down in
        let in' : inside K size s f x y p ≡ true = rw (left, top) in
        let c = code_at K size s f x y p in
        let k : weight s.element.order p ≡ s.element.order = ap (λ b. cond b s.element.order 1) parts.1 in
        let own = adds_own K size s f x y p in' in
        let has : adds K size s f x y p c ≤ window K size s f x y (placed s.element) c = window_has K size s f x y (placed s.element) p c o.1 in
        omega (arith, own, k, has, below_at (bag K size s f x y) c K.count (law.within _))

    -- the rank is one of the window's
    pub rank_some : 0 < rank K size s f x y
    rank_some = rank_positive s.operation s.element.order (total K size s f x y) (order_positive s.element)

    pub rank_most : rank K size s f x y ≤ total K size s f x y
    rank_most = rank_within s.operation s.element.order (total K size s f x y) (order_positive s.element) total_least

    -- a selector that holds the window has the rank, and ranks the code of the pixel's tone there
    module _ (w : ℕ → ℕ) (n t r : ℕ) (is : (c : ℕ) → w c ≡ bag K size s f x y c) (codes : K.count ≤ n) (whole : t ≡ below w n) (ranks : r ≡ rank_of s.operation s.element.order t) where
      pub total_is : t ≡ total K size s f x y
      total_is = whole ∙ below_same w (bag K size s f x y) n (λ c l. is c) ∙ total_range n codes

      pub rank_is : r ≡ rank K size s f x y
      rank_is = ranks ∙ ap (rank_of s.operation s.element.order) total_is

      pub rank_fits : (0 < r) × (r ≤ below w n)
      rank_fits = (omega (arith, rank_is, rank_some), omega (arith, whole, total_is, rank_is, rank_most))

      pub ranked_cleaned : (c : ℕ) → Ranked w r c → K.tone c ≡ cleaned K size s f x y
      unfolding cleaned
      ranked_cleaned c h =
          let b = bag K size s f x y in
          let mine : Ranked b (rank K size s f x y) c = subst (λ v. Ranked v (rank K size s f x y) c) (fun_ext is) (subst (λ q. Ranked w q c) rank_is h) in
          ap K.tone (ranked_one b (rank K size s f x y) c (ranked_code b (rank K size s f x y) K.count) mine (ranked_is b (rank K size s f x y) K.count rank_some rank_most).0)

      -- so it does not refuse the rank, and answers the code of the pixel's tone
      pub rank_selected : (a : Result ℕ SelectRefusal) → Selected w n r a → is_ok a ≡ true
      rank_selected a h = selected_ok w n r a rank_fits.0 rank_fits.1 h

      pub selected_cleaned : (a : Result ℕ SelectRefusal) (c : ℕ) → Selected w n r a → a ≡ Ok c → K.tone c ≡ cleaned K size s f x y
      selected_cleaned a c h e = ranked_cleaned c (subst (Selected w n r) e h).2
