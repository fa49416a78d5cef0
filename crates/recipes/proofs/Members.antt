-- Which places a standard shape has.
use Rattle.std.proofs.Common.{◌≡◌, zero, suc, ◌≤◌, Bool, true, false, cond, List, [], ◌∷◌, map, ℤ, pos, negsuc, nat_abs, filter, sym, refl, ap, ◌∙◌, subst, arith}
use Rattle.std.specs.List.{flat_map, ContainsAt as Has, AllByRecursion}
use Rattle.std.proofs.ByRecursion.{All-weaker, All-map, All-append, all-has, all_kept_by, kept_by_passes, has_append_left, has_append_right}
use Rattle.std.proofs.lemmas.List.{length-map, get_or-map}
use Rattle.std.proofs.lemmas.Bool.Decides.{nat_tests}
use Rattle.recipes.specs.declared.shapes.Shape.{Shape}
use Rattle.recipes.specs.declared.shapes.Shape.TheVariants.{Cross, Square3, Octagon5, Square7}
use Rattle.recipes.specs.Shapes.{in_shape, standard_place, standard_places, grid, offsets, Members}

-- a filter keeps what passes
has_kept_by : {X : Type 0} (test : X → Bool) (xs : List X) → AllByRecursion (λ x. test x ≡ true → Has (filter test xs) x) xs
has_kept_by test [] = tt
has_kept_by {X} test (y ∷ xs) =
    let later : (x : X) → (test x ≡ true → Has (filter test xs) x) → test x ≡ true → Has (cond (test y) (y ∷ filter test xs) (filter test xs)) x =
    λ x h e. elim (test y) as (λ b. Has (cond b (y ∷ filter test xs) (filter test xs)) x) [ true ↦ has_append_right (y ∷ []) (filter test xs) x (h e) | false ↦ h e ] in
    (λ e. rw e (0, omega arith, λ d. refl), All-weaker (λ x. test x ≡ true → Has (filter test xs) x) _ later xs (has_kept_by test xs))

all_joined : {X Y : Type 0} (P : Y → Type 0) (f : X → List Y) → ((x : X) → AllByRecursion P (f x)) → (xs : List X) → AllByRecursion P (flat_map f xs)
all_joined P f h [] = tt
all_joined P f h (x ∷ xs) = All-append P (f x) (flat_map f xs) (h x) (all_joined P f h xs)

has_joined : {X Y : Type 0} (f : X → List Y) (y : Y) (xs : List X) → AllByRecursion (λ x. Has (f x) y → Has (flat_map f xs) y) xs
has_joined f y [] = tt
has_joined f y (x ∷ xs) = (
  λ h. has_append_left (f x) (flat_map f xs) y h,
  All-weaker (λ z. Has (f z) y → Has (flat_map f xs) y) _ (λ z h g. has_append_right (f x) (flat_map f xs) y (h g)) xs (has_joined f y xs),
)

has_map : {X Y : Type 0} (f : X → Y) (xs : List X) (x : X) → Has xs x → Has (map f xs) (f x)
has_map f xs x h = (h.0, simp length-map h.1, λ d. get_or-map f xs h.0 x d h.1 ∙ ap f (h.2 x))

has_offset : (z : ℤ) → nat_abs z ≤ 3 → Has offsets z
has_offset (negsuc (suc (suc zero))) h = (0, omega arith, λ d. refl)
has_offset (negsuc (suc zero)) h = (1, omega arith, λ d. refl)
has_offset (negsuc zero) h = (2, omega arith, λ d. refl)
has_offset (pos zero) h = (3, omega arith, λ d. refl)
has_offset (pos (suc zero)) h = (4, omega arith, λ d. refl)
has_offset (pos (suc (suc zero))) h = (5, omega arith, λ d. refl)
has_offset (pos (suc (suc (suc zero)))) h = (6, omega arith, λ d. refl)
has_offset (pos (suc (suc (suc (suc n))))) h = absurd (omega arith)
has_offset (negsuc (suc (suc (suc n)))) h = absurd (omega arith)

has_grid : (dx dy : ℤ) → nat_abs dx ≤ 3 → nat_abs dy ≤ 3 → Has grid (standard_place dx dy)
unfolding grid
has_grid dx dy h k =
    all-has (λ z. Has (map (λ x. standard_place x z) offsets) (standard_place dx dy) → Has (flat_map (λ z. map (λ x. standard_place x z) offsets) offsets) (standard_place dx dy)) offsets dy
    (has_joined (λ z. map (λ x. standard_place x z) offsets) (standard_place dx dy) offsets) (has_offset dy k)
    (has_map (λ x. standard_place x dy) offsets dx (has_offset dx h))

all_grid : AllByRecursion (λ p. p ≡ standard_place p.dx p.dy) grid
unfolding grid
all_grid =
    all_joined (λ p. p ≡ standard_place p.dx p.dy) (λ dy. map (λ dx. standard_place dx dy) offsets)
    (λ dy. All-map (λ p. p ≡ standard_place p.dx p.dy) (λ dx. standard_place dx dy) offsets (refl, (refl, (refl, (refl, (refl, (refl, (refl, tt)))))))) offsets

near : (s : Shape) (dx dy : ℤ) → in_shape s dx dy ≡ true → (nat_abs dx ≤ 3) × (nat_abs dy ≤ 3)
near Cross dx dy e = (grind (arith, nat_tests), grind (arith, nat_tests))
near Square3 dx dy e = (grind (arith, nat_tests), grind (arith, nat_tests))
near Octagon5 dx dy e = (grind (arith, nat_tests), grind (arith, nat_tests))
near Square7 dx dy e = (grind (arith, nat_tests), grind (arith, nat_tests))

pub shape_members : (s : Shape) → Members s (standard_places s)
unfolding standard_places
shape_members s p = (
  λ h. (
    all-has (λ q. in_shape s q.dx q.dy ≡ true) (standard_places s) p (kept_by_passes (λ q. in_shape s q.dx q.dy) grid) h,
    all-has (λ q. q ≡ standard_place q.dx q.dy) (standard_places s) p (all_kept_by (λ q. in_shape s q.dx q.dy) (λ q. q ≡ standard_place q.dx q.dy) grid all_grid) h,
  ),
  λ b. let n = near s p.dx p.dy b.0 in
      let q : Has grid p = subst (Has grid) (sym b.1) (has_grid p.dx p.dy n.0 n.1) in
      all-has (λ q. in_shape s q.dx q.dy ≡ true → Has (standard_places s) q) grid p (has_kept_by (λ q. in_shape s q.dx q.dy) grid) q b.0,
)
