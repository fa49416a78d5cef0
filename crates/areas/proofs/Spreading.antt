-- Widening and joining rectangles, pixel by pixel.
use Rattle.std.proofs.Common.{◌≡◌, ℕ, ◌-◌, ◌≤◌, min, max, true, ◌⊎◌, List, [], ◌∷◌, Some, None, refl, inl, inr, arith}
use Rattle.std.proofs.lemmas.Bool.{and_parts}
use Rattle.planes.specs.declared.size.Size.{Size}
use Rattle.recipes.specs.declared.recipe.Stage.{Stage}
use Rattle.areas.specs.declared.rect.Rect.{Rect}
use Rattle.areas.specs.Rects.{Holds, Fits, InReach, Exactly, Smallest, widened, joined, hull}
use Rattle.areas.specs.Areas.{Area, Stale, area_fits, areas_fit, spread}
use Rattle.areas.specs.Meanings.{Becomes, Spreads}
use Rattle.areas.proofs.Fitting.{fits_true, widened_fits, joined_fits}

-- the number from a to before b that is nearest to x
nearest : ℕ → ℕ → ℕ → ℕ
nearest a b x = max a (min x (b - 1))

pub widened_in_reach : (size : Size) (s : Stage) (r : Rect) → Fits size r → (x y : ℕ) → Holds (widened size s r) x y → InReach size s (Holds r) x y
unfolding nearest
widened_in_reach size s r f x y h = record {
  column = omega arith;
  row = omega arith;
  other_x = nearest r.left r.right x;
  other_y = nearest r.top r.bottom y;
  there = record { from_left = omega arith; to_right = omega arith; from_top = omega arith; to_bottom = omega arith };
  across_within = record { below = omega arith; above = omega arith };
  down_within = record { below = omega arith; above = omega arith };
}

pub in_reach_widened : (size : Size) (s : Stage) (r : Rect) (x y : ℕ) → InReach size s (Holds r) x y → Holds (widened size s r) x y
in_reach_widened size s r x y n =
    let t = n.there in
    record { from_left = omega arith; to_right = omega arith; from_top = omega arith; to_bottom = omega arith }

pub widened_exact : (size : Size) (s : Stage) (r : Rect) → Fits size r → Exactly (widened size s r) (InReach size s (Holds r))
widened_exact size s r f x y = (widened_in_reach size s r f x y, in_reach_widened size s r x y)

-- a rectangle of which another holds every pixel lies within its sides
pub record Inside (r q : Rect) : Type 0 where
  pub left : q.left ≤ r.left
  pub right : r.right ≤ q.right
  pub top : q.top ≤ r.top
  pub bottom : r.bottom ≤ q.bottom

inside : (size : Size) (r q : Rect) → Fits size r → ((x y : ℕ) → Holds r x y → Holds q x y) → Inside r q
inside size r q f h =
    let first = h r.left r.top (record { from_left = omega arith; to_right = omega arith; from_top = omega arith; to_bottom = omega arith }) in
    let last = h (r.right - 1) (r.bottom - 1) (record { from_left = omega arith; to_right = omega arith; from_top = omega arith; to_bottom = omega arith }) in
    record { left = omega arith; right = omega arith; top = omega arith; bottom = omega arith }

hull_least : (size : Size) (r o q : Rect) → Fits size r → Fits size o → ((x y : ℕ) → Holds r x y → Holds q x y) → ((x y : ℕ) → Holds o x y → Holds q x y) → (x y : ℕ) → Holds (hull r o) x y → Holds q x y
hull_least size r o q f g h k x y t =
    let a = inside size r q f h in
    let b = inside size o q g k in
    record { from_left = omega arith; to_right = omega arith; from_top = omega arith; to_bottom = omega arith }

hull_left : (r o : Rect) (x y : ℕ) → Holds r x y → Holds (hull r o) x y
hull_left r o x y h = record { from_left = omega arith; to_right = omega arith; from_top = omega arith; to_bottom = omega arith }

hull_right : (r o : Rect) (x y : ℕ) → Holds o x y → Holds (hull r o) x y
hull_right r o x y h = record { from_left = omega arith; to_right = omega arith; from_top = omega arith; to_bottom = omega arith }

pub joined_smallest : (size : Size) (r : Rect) (a : Area) → Fits size r → area_fits size a ≡ true → Smallest (joined r a) (λ x y. Holds r x y ⊎ Stale a x y)
joined_smallest size r None f e = record { all = λ x y h. elim h [ inl p ↦ p | inr p ↦ absurd p ]; least = λ q k x y h. k x y (inl h) }
joined_smallest size r (Some o) f e = record {
  all = λ x y h. elim h [ inl p ↦ hull_left r o x y p | inr p ↦ hull_right r o x y p ];
  least = λ q k x y h. hull_least size r o q f (fits_true size o e) (λ x y p. k x y (inl p)) (λ x y p. k x y (inr p)) x y h;
}

becomes : (size : Size) (s : Stage) (r : Rect) (a : Area) → Fits size r → area_fits size a ≡ true → Becomes size s (Holds r) a (Some (joined (widened size s r) a))
becomes size s r a f e =
    let j = joined_smallest size (widened size s r) a (widened_fits size s r f) e in
    record {
      all = λ x y h. elim h [ inl p ↦ j.all x y (inl (in_reach_widened size s r x y p)) | inr p ↦ j.all x y (inr p) ];
      least = λ q k x y h. j.least q (λ x y p. elim p [ inl t ↦ k x y (inl (widened_in_reach size s r f x y t)) | inr t ↦ k x y (inr t) ]) x y h;
    }

pub spreads : (size : Size) (ss : List Stage) (r : Rect) (bs : List Area) → Fits size r → areas_fit size bs ≡ true → Spreads size ss (Holds r) bs (spread size ss r bs)
unfolding Spreads spread areas_fit
spreads size [] r bs f e = refl
spreads size (s ∷ ss) r [] f e = refl
spreads size (s ∷ ss) r (a ∷ bs) f e =
    let p = and_parts (area_fits size a) (areas_fit size bs) e in
    (becomes size s r a f p.0, spreads size ss (joined (widened size s r) a) bs (joined_fits size (widened size s r) a (widened_fits size s r f) p.0) p.1)

-- a joined rectangle holds the pixels of the first
pub joined_holds : (r : Rect) (a : Area) (x y : ℕ) → Holds r x y → Holds (joined r a) x y
joined_holds r None x y h = h
joined_holds r (Some o) x y h = hull_left r o x y h
