-- Stages whose operations, order indices and sets of places are the same make the same of a picture. Assumes nothing.
use Rattle.std.proofs.Common.{◌≡◌, ℕ, cond, ◌&&◌, eqb, nat_abs, List, [], ◌∷◌, sum_by, sym, ap, ◌∙◌}
use mathlib.Core.Path.{fun_ext}
use Rattle.std.proofs.lemmas.List.Sorted.{sum_by-IsPermutation}
use Rattle.planes.specs.declared.size.Size.{Size}
use Rattle.recipes.specs.declared.places.Place.{Place}
use Rattle.recipes.specs.declared.recipe.Operation.{Operation}
use Rattle.recipes.specs.declared.recipe.Stage.{Stage}
use Rattle.recipes.specs.Placed.{placed}
use Rattle.recipes.specs.Same.{SameStage, SameRecipe}
use Rattle.selectors.specs.Bag.{below}
use Rattle.stages.specs.Stages.{Picture, target, on_card, shifted, weight, adds, bag, rank_of, ranked_code, cleaned, made}
use Rattle.stages.proofs.Pictures.{SameOnCard, cleaned_same}
use Rattle.stages.proofs.Windows.{window_sum}
use Rattle.tones.specs.Kind.{Kind}

module _ {T R : Type 0} (K : Kind T R) (size : Size) where
  -- what a place adds by an operation and an order index
  abbrev adds_by : Picture T → ℕ → ℕ → Operation → ℕ → Place → ℕ → ℕ
  adds_by f x y o k p c =
      let u = target o x p.dx in
      let v = target o y p.dy in
      let code = K.code (shifted K o (f (nat_abs u) (nat_abs v)) p.amount) in
      cond ((on_card size.width u && on_card size.height v) && eqb code c) (weight k p) 0

  module _ (s t : Stage) (same : SameStage s t) (f : Picture T) (x y : ℕ) where
    -- a place adds the same
    adds_alike : (p : Place) (c : ℕ) → adds K size s f x y p c ≡ adds K size t f x y p c
    adds_alike p c =
        ap (λ o. adds_by f x y o s.element.order p c) same.operation
        ∙ ap (λ k. adds_by f x y t.operation k p c) same.element.order

    -- so the windows weigh the same, code by code, in whatever order the places stand
    pub bag_alike : (c : ℕ) → bag K size s f x y c ≡ bag K size t f x y c
    bag_alike c =
        window_sum K size s f x y (placed s.element) c
        ∙ ap (λ (v : Place → ℕ). sum_by v (placed s.element)) (fun_ext (λ p. adds_alike p c))
        ∙ sym (sum_by-IsPermutation (λ p. adds K size t f x y p c) (placed s.element) (placed t.element) same.element.places)
        ∙ sym (window_sum K size t f x y (placed t.element) c)

    -- and one tone is made of the pixel
    pub cleaned_alike : cleaned K size s f x y ≡ cleaned K size t f x y
    unfolding cleaned
    cleaned_alike =
        ap (λ b. K.tone (ranked_code b (rank_of s.operation s.element.order (below b K.count)) K.count)) (fun_ext bag_alike)
        ∙ ap (λ o. K.tone (ranked_code (bag K size t f x y) (rank_of o s.element.order (below (bag K size t f x y) K.count)) K.count)) same.operation
        ∙ ap (λ k. K.tone (ranked_code (bag K size t f x y) (rank_of t.operation k (below (bag K size t f x y) K.count)) K.count)) same.element.order

  -- pictures that agree on the card are made the same there by the same recipe
  pub made_alike : (ss ts : List Stage) → SameRecipe ss ts → (f g : Picture T) → SameOnCard size f g → SameOnCard size (made K size ss f) (made K size ts g)
  unfolding made
  made_alike [] [] same f g agree = agree
  made_alike [] (t ∷ ts) same f g agree = absurd same
  made_alike (s ∷ ss) [] same f g agree = absurd same
  made_alike (s ∷ ss) (t ∷ ts) same f g agree =
      made_alike ss ts same.1 (λ x y. cleaned K size s f x y) (λ x y. cleaned K size t g x y)
      (λ x y _ _. cleaned_alike s t same.0 f x y ∙ cleaned_same K size t f g agree x y)
