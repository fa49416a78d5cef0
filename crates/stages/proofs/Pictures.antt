-- Pictures that are the same on the card are made the same.
use Rattle.std.proofs.Common.{◌≡◌, ℕ, ◌<◌, Bool, true, false, cond, ◌&&◌, eqb, List, [], ◌∷◌, nat_abs, refl, ap, arith}
use mathlib.Core.Path.{fun_ext}
use Rattle.std.proofs.lemmas.Bool.{and_parts}
use Rattle.planes.specs.declared.size.Size.{Size}
use Rattle.recipes.specs.declared.places.Place.{Place}
use Rattle.recipes.specs.declared.recipe.Stage.{Stage}
use Rattle.recipes.specs.Placed.{placed}
use Rattle.selectors.specs.Bag.{below}
use Rattle.tones.specs.Kind.{Kind}
use Rattle.stages.specs.Stages.{Picture, target, on_card, weight, shifted, inside, read, adds, window, bag, rank_of, ranked_code, cleaned}
use Rattle.stages.proofs.Windows.{on_card_less}

-- two pictures have the same tones on the card
abbrev pub SameOnCard : {T : Type 0} → Size → Picture T → Picture T → Type 0
SameOnCard size f g = (x y : ℕ) → x < size.width → y < size.height → f x y ≡ g x y

module _ {T R : Type 0} (K : Kind T R) (size : Size) (s : Stage) (f g : Picture T) (same : SameOnCard size f g) (x y : ℕ) where
  adds_by : (p : Place) (c : ℕ) (b : Bool) → (b ≡ true → read K size s f x y p ≡ read K size s g x y p) → cond {A = ℕ} (b && eqb (K.code (shifted K s.operation (read K size s f x y p) p.amount)) c) (weight s.element.order p) 0 ≡ cond (b && eqb (K.code (shifted K s.operation (read K size s g x y p) p.amount)) c) (weight s.element.order p) 0
  adds_by p c true h = ap (λ t. cond {A = ℕ} (eqb (K.code (shifted K s.operation t p.amount)) c) (weight s.element.order p) 0) (h refl)
  adds_by p c false h = refl

  pub adds_same : (p : Place) (c : ℕ) → adds K size s f x y p c ≡ adds K size s g x y p c
  adds_same p c =
      adds_by p c (inside K size s f x y p) (λ h.
      let parts = and_parts (on_card size.width (target s.operation x p.dx)) (on_card size.height (target s.operation y p.dy)) h in
      same (nat_abs (target s.operation x p.dx)) (nat_abs (target s.operation y p.dy)) (on_card_less size.width (target s.operation x p.dx) parts.0) (on_card_less size.height (target s.operation y p.dy) parts.1))

  pub window_same : (ps : List Place) (c : ℕ) → window K size s f x y ps c ≡ window K size s g x y ps c
  unfolding window
  window_same [] c = refl
  window_same (p ∷ ps) c = omega (arith, adds_same p c, window_same ps c)

  pub bag_same : (c : ℕ) → bag K size s f x y c ≡ bag K size s g x y c
  bag_same c = window_same (placed s.element) c

  pub cleaned_same : cleaned K size s f x y ≡ cleaned K size s g x y
  unfolding cleaned
  cleaned_same = ap (λ b. K.tone (ranked_code b (rank_of s.operation s.element.order (below b K.count)) K.count)) (fun_ext bag_same)
