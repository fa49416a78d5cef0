-- What a change in a rectangle leaves right above it.
use Rattle.std.proofs.Common.{◌≡◌, ℕ, suc, ◌<◌, List, [], ◌∷◌, ◌∙◌, inl, inr, arith}
use Rattle.planes.specs.declared.size.Size.{Size}
use Rattle.recipes.specs.declared.recipe.Stage.{Stage}
use Rattle.areas.specs.declared.rect.Rect.{Rect}
use Rattle.areas.specs.Rects.{Holds, widened, joined}
use Rattle.areas.specs.Areas.{Area, spread}
use Rattle.areas.proofs.Spreading.{in_reach_widened, joined_holds}
use Rattle.stages.specs.Stages.{Picture, cleaned}
use Rattle.filters.specs.Morphology.{On}
use Rattle.filters.proofs.Locality.{local}
use Rattle.tones.specs.Kind.{Kind}
use Rattle.calls.proofs.Pixels.{cases_holds, joined_old}
use Rattle.calls.proofs.Rightness.{SamePlane, Right}

-- two pictures are the same on the card outside a rectangle
abbrev pub SameOutside : {T : Type 0} → Size → Rect → Picture T → Picture T → Type 0
SameOutside size r f g = (x y : ℕ) → On size x y → (Holds r x y → ⊥) → f x y ≡ g x y

module _ {T R : Type 0} (K : Kind T R) (size : Size) where
  -- a stage makes them the same outside the widened rectangle
  cleaned_outside : (s : Stage) (r : Rect) (f g : Picture T) → SameOutside size r f g → SameOutside size (widened size s r) (λ x y. cleaned K size s f x y) (λ x y. cleaned K size s g x y)
  cleaned_outside s r f g same x y on out =
      local K size s f g x y (λ u v at across down. elim (cases_holds r u v) [
        | inl h ↦ absurd (out (in_reach_widened size s r x y (record {
          column = on.0;
          row = on.1;
          other_x = u;
          other_y = v;
          there = h;
          across_within = across;
          down_within = down;
        })))
        | inr n ↦ same u v at n
      ])

  -- outside the spread areas every plane above is as right as it was
  pub spread_right : (j : ℕ) (f g : Picture T) (m n : List R) (ss : List Stage) (r : Rect) (bs : List Area) → ((i : ℕ) → j < i → SamePlane K size i m n) → SameOutside size r f g → Right K size j f m ss bs → Right K size j g n ss (spread size ss r bs)
  unfolding Right spread
  spread_right j f g m n [] r [] kept same right = right
  spread_right j f g m n [] r (b ∷ bs) kept same right = right
  spread_right j f g m n (s ∷ ss) r [] kept same right = right
  spread_right j f g m n (s ∷ ss) r (b ∷ bs) kept same right =
      let wide = widened size s r in
      let next : SameOutside size (joined wide b) (λ x y. cleaned K size s f x y) (λ x y. cleaned K size s g x y) = λ x y on out. cleaned_outside s r f g same x y on (λ h. out (joined_holds wide b x y h)) in (
        λ x y on out. kept (suc j) (omega arith) x y on ∙ (right.0 x y on (λ t. out (joined_old wide b x y t)) ∙ next x y on out),
        spread_right (suc j) (λ x y. cleaned K size s f x y) (λ x y. cleaned K size s g x y) m n ss (joined wide b) bs (λ i h. kept i (omega arith)) next right.1,
      )
