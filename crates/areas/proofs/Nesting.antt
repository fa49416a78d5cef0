-- Areas that come about by the operations are nested, and the last one tells of all.
use Rattle.std.proofs.Common.{◌≡◌, ℕ, ◌+◌, true, ltb, List, [], ◌∷◌, length, Some, None, sym, refl, ◌∙◌, arith}
use Rattle.std.proofs.lemmas.List.{length-map}
use Rattle.std.proofs.lemmas.Bool.{and_parts, cond_both, false≢true}
use Rattle.planes.specs.declared.size.Size.{Size}
use Rattle.planes.specs.Sizes.{Limits}
use Rattle.recipes.specs.declared.recipe.Stage.{Stage}
use Rattle.areas.specs.declared.rect.Rect.{Rect}
use Rattle.areas.specs.Rects.{Holds, Fits, fits, InReach, widened, joined, whole, lessened}
use Rattle.areas.specs.Areas.{Area, Stale, areas_fit, spread, none_stale, all_stale, dropped, last_area}
use Rattle.areas.specs.Meanings.{has_area, some_stale}
use Rattle.areas.specs.Arising.{Arises, NestedOn, Nested, Arising}
use Rattle.areas.specs.Arising.Arises.{nothing, everything, written, redone}
use Rattle.areas.proofs.Fitting.{fits_true, areas_fit_none, areas_fit_all, areas_fit_spread, areas_fit_dropped}
use Rattle.areas.proofs.Walks.{length_spread, length_dropped}
use Rattle.areas.proofs.Spreading.{in_reach_widened, joined_holds}

-- what is in reach of some pixels is in reach of more
in_reach_more : (size : Size) (s : Stage) (P Q : ℕ → ℕ → Type 0) → ((x y : ℕ) → P x y → Q x y) → (x y : ℕ) → InReach size s P x y → InReach size s Q x y
in_reach_more size s P Q h x y n = record {
  column = n.column;
  row = n.row;
  other_x = n.other_x;
  other_y = n.other_y;
  there = h n.other_x n.other_y n.there;
  across_within = n.across_within;
  down_within = n.down_within;
}

-- fewer pixels stale below
nested_fewer : (size : Size) (P Q : ℕ → ℕ → Type 0) → ((x y : ℕ) → P x y → Q x y) → (ss : List Stage) (bs : List Area) → NestedOn size Q ss bs → NestedOn size P ss bs
unfolding NestedOn
nested_fewer size P Q h [] bs n = tt
nested_fewer size P Q h (s ∷ ss) [] n = tt
nested_fewer size P Q h (s ∷ ss) (a ∷ bs) n = (λ x y p. n.0 x y (in_reach_more size s P Q h x y p), n.1)

nested_none : (size : Size) (ss : List Stage) → Nested size ss (none_stale ss)
unfolding NestedOn
nested_none size [] = tt
nested_none size (s ∷ ss) = (λ x y n. n.there, nested_fewer size (Stale None) (λ x y. ⊥) (λ x y p. p) ss (none_stale ss) (nested_none size ss))

nested_all : (size : Size) (P : ℕ → ℕ → Type 0) (ss : List Stage) → NestedOn size P ss (all_stale size ss)
unfolding NestedOn
nested_all size P [] = tt
nested_all size P (s ∷ ss) = (
  λ x y n. record { from_left = omega arith; to_right = n.column; from_top = omega arith; to_bottom = n.row },
  nested_all size (Stale (Some (whole size))) ss,
)

nested_spread : (size : Size) (ss : List Stage) (r : Rect) (bs : List Area) → NestedOn size (Holds r) ss (spread size ss r bs)
unfolding NestedOn spread
nested_spread size [] r bs = tt
nested_spread size (s ∷ ss) r [] = tt
nested_spread size (s ∷ ss) r (a ∷ bs) = (
  λ x y n. joined_holds (widened size s r) a x y (in_reach_widened size s r x y n),
  nested_spread size ss (joined (widened size s r) a) bs,
)

-- a rectangle less its top row holds no new pixel
lessened_stale : (r : Rect) (x y : ℕ) → Stale (lessened r) x y → Holds r x y
lessened_stale r x y =
    cond_both (ltb (r.top + 1) r.bottom) _ _ (λ a. Stale a x y → Holds r x y)
    (λ e h. record { from_left = h.from_left; to_right = h.to_right; from_top = omega arith; to_bottom = h.to_bottom })
    (λ e h. absurd h)

nested_dropped : (size : Size) (ss : List Stage) (bs : List Area) → Nested size ss bs → Nested size ss (dropped bs)
unfolding NestedOn dropped
nested_dropped size [] bs n = tt
nested_dropped size (s ∷ ss) [] n = tt
nested_dropped size (s ∷ ss) (None ∷ bs) n = (
  n.0,
  nested_fewer size (Stale None) (λ x y. ⊥) (λ x y p. p) ss (dropped bs) (nested_dropped size ss bs (nested_fewer size (λ x y. ⊥) (Stale None) (λ x y p. absurd p) ss bs n.1)),
)
nested_dropped size (s ∷ ss) (Some r ∷ bs) n = (λ x y p. absurd p.there, nested_fewer size (Stale (lessened r)) (Holds r) (lessened_stale r) ss bs n.1)

-- there is one area a stage
pub arises_length : (size : Size) (ss : List Stage) (bs : List Area) → Arises size ss bs → length bs ≡ length ss
arises_length size ss bs nothing = length-map ss (λ s. None)
arises_length size ss bs everything = length-map ss (λ s. Some (whole size))
arises_length size ss bs (written r old f a) = length_spread size ss r old ∙ arises_length size ss old a
arises_length size ss bs (redone old a) = length_dropped old ∙ arises_length size ss old a

pub arises_nested : (size : Size) (ss : List Stage) (bs : List Area) → Arises size ss bs → Nested size ss bs
arises_nested size ss bs nothing = nested_none size ss
arises_nested size ss bs everything = nested_all size (λ x y. ⊥) ss
arises_nested size ss bs (written r old f a) = nested_fewer size (λ x y. ⊥) (Holds r) (λ x y p. absurd p) ss (spread size ss r old) (nested_spread size ss r old)
arises_nested size ss bs (redone old a) = nested_dropped size ss old (arises_nested size ss old a)

pub arises_fit : (size : Size) (ss : List Stage) (bs : List Area) → Limits size → Arises size ss bs → areas_fit size bs ≡ true
arises_fit size ss bs l nothing = areas_fit_none size ss
arises_fit size ss bs l everything = areas_fit_all size ss l
arises_fit size ss bs l (written r old f a) = areas_fit_spread size ss r old f (arises_fit size ss old l a)
arises_fit size ss bs l (redone old a) = areas_fit_dropped size old (arises_fit size ss old l a)

-- a stage has an area where the one below has one
area_above : (size : Size) (s : Stage) (r : Rect) (b : Area) → Fits size r → ((x y : ℕ) → InReach size s (Holds r) x y → Stale b x y) → has_area b ≡ true
area_above size s r None f n = absurd (n r.left r.top (record {
  column = omega arith;
  row = omega arith;
  other_x = r.left;
  other_y = r.top;
  there = record { from_left = omega arith; to_right = omega arith; from_top = omega arith; to_bottom = omega arith };
  across_within = record { below = omega arith; above = omega arith };
  down_within = record { below = omega arith; above = omega arith };
}))
area_above size s r (Some q) f n = refl

-- below nested areas of which the first is one, the last is one
last_above : (size : Size) (ss : List Stage) (r : Rect) (bs : List Area) → Fits size r → areas_fit size bs ≡ true → length bs ≡ length ss → NestedOn size (Holds r) ss bs → has_area (last_area (Some r ∷ bs)) ≡ true
unfolding last_area NestedOn areas_fit
last_above size ss r [] f e l n = refl
last_above size [] r (b ∷ bs) f e l n = absurd (omega arith)
last_above size (s ∷ ss) r (None ∷ bs) f e l n = let z = area_above size s r None f n.0 in absurd (false≢true z)
last_above size (s ∷ ss) r (Some q ∷ bs) f e l n =
    let p = and_parts (fits size q) (areas_fit size bs) e in
    last_above size ss q bs (fits_true size q p.0) p.1 (omega arith) n.1

last_tells : (size : Size) (P : ℕ → ℕ → Type 0) (ss : List Stage) (bs : List Area) → areas_fit size bs ≡ true → length bs ≡ length ss → NestedOn size P ss bs → some_stale bs ≡ has_area (last_area bs)
unfolding last_area NestedOn areas_fit some_stale
last_tells size P ss [] e l n = refl
last_tells size P [] (b ∷ bs) e l n = absurd (omega arith)
last_tells size P (s ∷ ss) (None ∷ []) e l n = refl
last_tells size P (s ∷ ss) (None ∷ (b ∷ bs)) e l n = last_tells size (Stale None) ss (b ∷ bs) e (omega arith) n.1
last_tells size P (s ∷ ss) (Some r ∷ bs) e l n =
    let p = and_parts (fits size r) (areas_fit size bs) e in
    sym (last_above size ss r bs (fits_true size r p.0) p.1 (omega arith) n.1)

pub arising : (size : Size) (bs : List Area) → Limits size → Arising size bs
arising size bs l ss a =
    let n = arises_nested size ss bs a in
    (n, last_tells size (λ x y. ⊥) ss bs (arises_fit size ss bs l a) (arises_length size ss bs a) n)
