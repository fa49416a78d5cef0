-- The top row of the lowest stage with an area, redone.
use Rattle.std.proofs.Common.{◌≡◌, ℕ, zero, suc, ◌+◌, ◌-◌, ◌<◌, ◌≤◌, true, List, [], ◌∷◌, length, get_or, Some, None, refl, ap, ◌∙◌, inl, inr, arith}
use Rattle.std.proofs.lemmas.Bool.{and_parts, cases_eq}
use Rattle.planes.specs.declared.size.Size.{Size}
use Rattle.planes.specs.Sizes.{area, start}
use Rattle.recipes.specs.declared.recipe.Stage.{Stage}
use Rattle.areas.specs.declared.rect.Rect.{Rect}
use Rattle.areas.specs.Rects.{Fits, fits, lessened}
use Rattle.areas.specs.Areas.{Area, areas_fit, dropped}
use Rattle.areas.proofs.Fitting.{fits_true}
use Rattle.stages.specs.Planes.{line, blank}
use Rattle.stages.specs.Rows.{row_made}
use Rattle.stages.specs.Stages.{Picture, cleaned}
use Rattle.stages.proofs.Lines.{line_length}
use Rattle.stages.proofs.Pictures.{cleaned_same}
use Rattle.filters.specs.Morphology.{On}
use Rattle.tones.specs.Kind.{Kind, Laws}
use Rattle.calls.specs.Outcomes.{task_from, task_made}
use Rattle.calls.specs.History.{plane}
use Rattle.calls.proofs.Pixels.{cases_holds, lower_stale}
use Rattle.calls.proofs.Written.{plane_within, written_length, written_in, written_out}
use Rattle.calls.proofs.Rightness.{Agrees, SamePlane, Right, agrees_kept, right_kept}

-- a pixel of a row of a picture
line_at : {T R : Type 0} (K : Kind T R) (f : Picture T) (y x n k : ℕ) (d : R) → k < n → get_or (line K f y x n) k d ≡ K.row (f (x + k) y)
unfolding line
line_at K f y x zero k d h = absurd (omega arith)
line_at K f y x (suc n) zero d h = let e : x ≡ x + 0 = omega arith in ap (λ u. K.row (f u y)) e
line_at K f y x (suc n) (suc k) d h =
    let e : suc x + k ≡ x + suc k = omega arith in
    line_at K f y (suc x) n k d (omega arith) ∙ ap (λ u. K.row (f u y)) e

module _ {T R : Type 0} (K : Kind T R) (law : Laws K) (size : Size) (most : ℕ) (m : List R) (long : length m ≡ start size (suc most)) where
  -- the row of stage s over plane j
  module _ (s : Stage) (j : ℕ) (r : Rect) (fit : Fits size r) (few : suc j ≤ most) where
    -- what the stage makes of the plane below
    abbrev over : Picture T
    over u v = cleaned K size s (plane K size j m) u v

    abbrev new : List R
    new = line K over r.top r.left (r.right - r.left)

    abbrev after : List R
    after = row_made K size s (start size j) m r.top r.left r.right (start size (suc j))

    new_length : length new ≡ r.right - r.left
    new_length = line_length K over r.top r.left (r.right - r.left)

    across : r.left + length new ≤ size.width
    across = omega (arith, new_length)

    down : r.top < size.height
    down = omega arith

    room : start size (suc j) + area size ≤ length m
    room = plane_within size (suc j) most (length m) few long

    row_length : length after ≡ length m
    row_length = written_length size (suc j) r.left r.top m new across down room

    -- it has what the stage makes of the plane below
    row_in : (u : ℕ) → r.left ≤ u → u < r.right → plane K size (suc j) after u r.top ≡ over u r.top
    row_in u p q =
        let e : r.left + (u - r.left) ≡ u = omega arith in
        ap K.counted (written_in size (suc j) r.left r.top m new across down room u (blank K) p (omega (arith, new_length))
        ∙ line_at K over r.top r.left (r.right - r.left) (u - r.left) (blank K) (omega arith))
        ∙ (law.laid (over (r.left + (u - r.left)) r.top)
        ∙ ap (λ k. over k r.top) e)

    -- and no other pixel changes
    row_out : (i u v : ℕ) → On size u v → (i ≡ suc j → v ≡ r.top → r.left ≤ u → u < r.right → ⊥) → plane K size i after u v ≡ plane K size i m u v
    row_out i u v on other =
        ap K.counted (written_out size (suc j) r.left r.top m new across down room i u v (blank K) on.0 on.1
        (record { other = λ e f p q. other e f p (omega (arith, new_length)) }))

    -- so no other plane does
    row_plane : (i : ℕ) → (i ≡ suc j → ⊥) → SamePlane K size i m after
    row_plane i other u v on = row_out i u v on (λ e f p q. other e)

    -- so the row is right, and is stale no more
    row_right : (f : Picture T) → Agrees K size j f None m → Agrees K size (suc j) (λ x y. cleaned K size s f x y) (Some r) m → Agrees K size (suc j) (λ x y. cleaned K size s f x y) (lessened r) after
    row_right f below here x y on out = elim (cases_holds r x y) [
      | inl h ↦ elim (cases_eq y r.top) [
        | inl e ↦
            rw e (row_in x h.from_left h.to_right
            ∙ cleaned_same K size s (plane K size j m) f (λ u v p q. below u v (p, q) (λ n. n)) x r.top)
        | inr d ↦ absurd (out (lower_stale r x y h d))
      ]
      | inr n ↦
          row_out (suc j) x y on (λ _ e p q. n (record { from_left = p; to_right = q; from_top = omega arith; to_bottom = omega arith }))
          ∙ here x y on n
    ]

  -- a task keeps the length, and every plane up to the one that its stages begin over
  pub task_length : (j : ℕ) (ss : List Stage) (bs : List Area) → j + length ss ≤ most → areas_fit size bs ≡ true → length (task_made K size (task_from j ss bs) m) ≡ length m
  unfolding task_from areas_fit
  task_length j [] bs few fit = refl
  task_length j (s ∷ ss) [] few fit = refl
  task_length j (s ∷ ss) (None ∷ bs) few fit = task_length (suc j) ss bs (omega arith) fit
  task_length j (s ∷ ss) (Some r ∷ bs) few fit = row_length s j r (fits_true size r (and_parts (fits size r) (areas_fit size bs) fit).0) (omega arith)

  pub task_below : (j : ℕ) (ss : List Stage) (bs : List Area) → j + length ss ≤ most → areas_fit size bs ≡ true → (i : ℕ) → i ≤ j → SamePlane K size i m (task_made K size (task_from j ss bs) m)
  unfolding task_from areas_fit
  task_below j [] bs few fit i h x y on = refl
  task_below j (s ∷ ss) [] few fit i h x y on = refl
  task_below j (s ∷ ss) (None ∷ bs) few fit i h x y on = task_below (suc j) ss bs (omega arith) fit i (omega arith) x y on
  task_below j (s ∷ ss) (Some r ∷ bs) few fit i h x y on = row_plane s j r (fits_true size r (and_parts (fits size r) (areas_fit size bs) fit).0) (omega arith) i (λ e. omega arith) x y on

  -- over a plane that is wholly right, a task leaves every plane right
  pub task_right : (j : ℕ) (f : Picture T) (ss : List Stage) (bs : List Area) → j + length ss ≤ most → areas_fit size bs ≡ true → Agrees K size j f None m → Right K size j f m ss bs → Right K size j f (task_made K size (task_from j ss bs) m) ss (dropped bs)
  unfolding task_from areas_fit dropped Right
  task_right j f [] [] few fit below right = right
  task_right j f [] (b ∷ bs) few fit below right = absurd right
  task_right j f (s ∷ ss) [] few fit below right = right
  task_right j f (s ∷ ss) (None ∷ bs) few fit below right = (
    agrees_kept K size (suc j) (λ x y. cleaned K size s f x y) None m _ (task_below (suc j) ss bs (omega arith) fit (suc j) (omega arith)) right.0,
    task_right (suc j) (λ x y. cleaned K size s f x y) ss bs (omega arith) fit right.0 right.1,
  )
  task_right j f (s ∷ ss) (Some r ∷ bs) few fit below right =
      let on = fits_true size r (and_parts (fits size r) (areas_fit size bs) fit).0 in
      let one : suc j ≤ most = omega arith in (
        row_right s j r on one f below right.0,
        right_kept K size (suc j) (λ x y. cleaned K size s f x y) m (after s j r on one) ss bs (λ i h. row_plane s j r on one i (λ e. omega arith)) right.1,
      )
