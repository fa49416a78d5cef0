-- Planes that are right outside the stale areas.
use Rattle.std.proofs.Common.{◌≡◌, ℕ, suc, ◌+◌, ◌<◌, true, List, [], ◌∷◌, length, None, refl, ◌∙◌, subst, arith}
use Rattle.planes.specs.declared.size.Size.{Size}
use Rattle.recipes.specs.declared.recipe.Stage.{Stage}
use Rattle.areas.specs.Areas.{Area, Stale, areas_fit, stale_rows, last_area}
use Rattle.stages.specs.Stages.{Picture, cleaned, made}
use Rattle.filters.specs.Morphology.{On}
use Rattle.tones.specs.Kind.{Kind}
use Rattle.calls.specs.History.{plane}
use Rattle.calls.proofs.Lessening.{last_clean}

-- nothing below the first stage is stale, so the last area is that of the last stage
last_below : (bs : List Area) → last_area (None ∷ bs) ≡ last_area bs
unfolding last_area
last_below [] = refl
last_below (b ∷ bs) = refl

module _ {T R : Type 0} (K : Kind T R) (size : Size) where
  -- plane j has the tones of a picture on the card outside an area
  abbrev pub Agrees : ℕ → Picture T → Area → List R → Type 0
  Agrees j f a m = (x y : ℕ) → On size x y → (Stale a x y → ⊥) → plane K size j m x y ≡ f x y

  -- plane j has the same tones on the card in both memories
  abbrev pub SamePlane : ℕ → List R → List R → Type 0
  SamePlane j m n = (x y : ℕ) → On size x y → plane K size j n x y ≡ plane K size j m x y

  -- above plane j, which is to have the tones of f, the plane of each stage has what the stages make of f, outside the stage's area
  unfoldable pub Right : ℕ → Picture T → List R → List Stage → List Area → Type 0
  Right j f m [] [] = Unit {0}
  Right j f m [] (b ∷ bs) = ⊥
  Right j f m (s ∷ ss) [] = ⊥
  Right j f m (s ∷ ss) (b ∷ bs) = Agrees (suc j) (λ x y. cleaned K size s f x y) b m × Right (suc j) (λ x y. cleaned K size s f x y) m ss bs

  pub agrees_kept : (j : ℕ) (f : Picture T) (a : Area) (m n : List R) → SamePlane j m n → Agrees j f a m → Agrees j f a n
  agrees_kept j f a m n same agrees x y on out = same x y on ∙ agrees x y on out

  -- planes above j that are left as they were stay right
  pub right_kept : (j : ℕ) (f : Picture T) (m n : List R) (ss : List Stage) (bs : List Area) → ((i : ℕ) → j < i → SamePlane i m n) → Right j f m ss bs → Right j f n ss bs
  unfolding Right
  right_kept j f m n [] [] same right = right
  right_kept j f m n [] (b ∷ bs) same right = right
  right_kept j f m n (s ∷ ss) [] same right = right
  right_kept j f m n (s ∷ ss) (b ∷ bs) same right = (
    agrees_kept (suc j) (λ x y. cleaned K size s f x y) b m n (same (suc j) (omega arith)) right.0,
    right_kept (suc j) (λ x y. cleaned K size s f x y) m n ss bs (λ i h. same i (omega arith)) right.1,
  )

  -- the last plane has what all the stages make, outside the last area
  pub finished : (j : ℕ) (f : Picture T) (m : List R) (ss : List Stage) (a : Area) (bs : List Area) → Agrees j f a m → Right j f m ss bs → Agrees (j + length ss) (made K size ss f) (last_area (a ∷ bs)) m
  unfolding Right made last_area
  finished j f m [] a [] agrees right = let e : j ≡ j + 0 = omega arith in subst (λ k. Agrees k f a m) e agrees
  finished j f m [] a (b ∷ bs) agrees right = absurd right
  finished j f m (s ∷ ss) a [] agrees right = absurd right
  finished j f m (s ∷ ss) a (b ∷ bs) agrees right =
      let e : suc j + length ss ≡ j + suc (length ss) = omega arith in
      subst (λ k. Agrees k (made K size ss (λ x y. cleaned K size s f x y)) (last_area (b ∷ bs)) m) e
      (finished (suc j) (λ x y. cleaned K size s f x y) m ss b bs right.0 right.1)

  module _ (f : Picture T) (m : List R) (ss : List Stage) (bs : List Area) (below : Agrees 0 f None m) (right : Right 0 f m ss bs) where
    -- the finished plane is right outside the last stage's area
    pub finished_right : Agrees (length ss) (made K size ss f) (last_area bs) m
    finished_right =
        let e : 0 + length ss ≡ length ss = omega arith in
        subst (λ a. Agrees (length ss) (made K size ss f) a m) (last_below bs)
        (subst (λ k. Agrees k (made K size ss f) (last_area (None ∷ bs)) m) e (finished 0 f m ss None bs below right))

    -- and everywhere on the card where nothing is stale
    pub finished_clean : areas_fit size bs ≡ true → stale_rows bs ≡ 0 → (x y : ℕ) → On size x y → plane K size (length ss) m x y ≡ made K size ss f x y
    finished_clean fit clean x y on =
        let none : Stale (last_area bs) x y → ⊥ = λ t. subst (λ a. Stale a x y) (last_clean size bs fit clean) t in
        finished_right x y on none
