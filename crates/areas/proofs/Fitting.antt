-- Rectangles and areas that lie on the card.
use Rattle.std.proofs.Common.{◌≡◌, ℕ, zero, suc, ◌+◌, true, ltb, List, [], ◌∷◌, get_or, set, Some, None, refl, arith}
use Rattle.std.proofs.lemmas.Bool.Decides.{nat_tests}
use Rattle.std.proofs.lemmas.Bool.{and_parts, and_from, cond_both, ltb-true}
use Rattle.planes.specs.declared.size.Size.{Size}
use Rattle.planes.specs.Sizes.{Limits}
use Rattle.recipes.specs.declared.recipe.Stage.{Stage}
use Rattle.areas.specs.declared.rect.Rect.{Rect}
use Rattle.areas.specs.Rects.{Fits, fits, whole, widened, joined, lessened}
use Rattle.areas.specs.Areas.{Area, area_fits, areas_fit, spread, all_stale, none_stale, dropped}

pub fits_true : (size : Size) (r : Rect) → fits size r ≡ true → Fits size r
fits_true size r e = record { columns = grind (arith, nat_tests); wide = grind (arith, nat_tests); rows = grind (arith, nat_tests); high = grind (arith, nat_tests) }

pub fits_from : (size : Size) (r : Rect) → Fits size r → fits size r ≡ true
fits_from size r f = grind (arith, nat_tests)

pub whole_fits : (size : Size) → Limits size → Fits size (whole size)
whole_fits size l = record { columns = omega arith; wide = omega arith; rows = omega arith; high = omega arith }

pub widened_fits : (size : Size) (s : Stage) (r : Rect) → Fits size r → Fits size (widened size s r)
widened_fits size s r f = record { columns = omega arith; wide = omega arith; rows = omega arith; high = omega arith }

pub joined_fits : (size : Size) (r : Rect) (a : Area) → Fits size r → area_fits size a ≡ true → Fits size (joined r a)
joined_fits size r None f e = f
joined_fits size r (Some q) f e =
    let g = fits_true size q e in record { columns = omega arith; wide = omega arith; rows = omega arith; high = omega arith }

pub lessened_fits : (size : Size) (r : Rect) → Fits size r → area_fits size (lessened r) ≡ true
lessened_fits size r f =
    cond_both (ltb (r.top + 1) r.bottom) _ _ (λ a. area_fits size a ≡ true)
    (λ e. let h = ltb-true (r.top + 1) r.bottom e in grind (arith, nat_tests))
    (λ e. refl)

pub areas_fit_at : (size : Size) (bs : List Area) (i : ℕ) → areas_fit size bs ≡ true → area_fits size (get_or bs i None) ≡ true
unfolding areas_fit
areas_fit_at size [] i e = refl
areas_fit_at size (a ∷ bs) zero e = (and_parts (area_fits size a) (areas_fit size bs) e).0
areas_fit_at size (a ∷ bs) (suc i) e = areas_fit_at size bs i (and_parts (area_fits size a) (areas_fit size bs) e).1

pub areas_fit_set : (size : Size) (bs : List Area) (i : ℕ) (a : Area) → areas_fit size bs ≡ true → area_fits size a ≡ true → areas_fit size (set bs i a) ≡ true
unfolding areas_fit
areas_fit_set size [] i a e f = refl
areas_fit_set size (b ∷ bs) zero a e f = and_from (area_fits size a) (areas_fit size bs) f (and_parts (area_fits size b) (areas_fit size bs) e).1
areas_fit_set size (b ∷ bs) (suc i) a e f =
    let p = and_parts (area_fits size b) (areas_fit size bs) e in
    and_from (area_fits size b) (areas_fit size (set bs i a)) p.0 (areas_fit_set size bs i a p.1 f)

pub areas_fit_all : (size : Size) (ss : List Stage) → Limits size → areas_fit size (all_stale size ss) ≡ true
unfolding areas_fit
areas_fit_all size [] l = refl
areas_fit_all size (s ∷ ss) l = and_from (area_fits size (Some (whole size))) (areas_fit size (all_stale size ss)) (fits_from size (whole size) (whole_fits size l)) (areas_fit_all size ss l)

pub areas_fit_none : (size : Size) (ss : List Stage) → areas_fit size (none_stale ss) ≡ true
unfolding areas_fit
areas_fit_none size [] = refl
areas_fit_none size (s ∷ ss) = areas_fit_none size ss

pub areas_fit_spread : (size : Size) (ss : List Stage) (r : Rect) (bs : List Area) → Fits size r → areas_fit size bs ≡ true → areas_fit size (spread size ss r bs) ≡ true
unfolding areas_fit spread
areas_fit_spread size [] r bs f e = e
areas_fit_spread size (s ∷ ss) r [] f e = refl
areas_fit_spread size (s ∷ ss) r (a ∷ bs) f e =
    let p = and_parts (area_fits size a) (areas_fit size bs) e in
    let n = joined (widened size s r) a in
    let g = joined_fits size (widened size s r) a (widened_fits size s r f) p.0 in
    and_from (fits size n) (areas_fit size (spread size ss n bs)) (fits_from size n g) (areas_fit_spread size ss n bs g p.1)

pub areas_fit_dropped : (size : Size) (bs : List Area) → areas_fit size bs ≡ true → areas_fit size (dropped bs) ≡ true
unfolding areas_fit dropped
areas_fit_dropped size [] e = refl
areas_fit_dropped size (None ∷ bs) e = areas_fit_dropped size bs e
areas_fit_dropped size (Some r ∷ bs) e =
    let p = and_parts (fits size r) (areas_fit size bs) e in
    and_from (area_fits size (lessened r)) (areas_fit size bs) (lessened_fits size r (fits_true size r p.0)) p.1
