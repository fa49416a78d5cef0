-- At most 49 places within the limits stand apart.
use Rattle.std.proofs.Common.{◌≡◌, ℕ, zero, suc, ◌+◌, ◌-◌, ◌*◌, ◌<◌, ◌≤◌, Bool, true, false, cond, not, ◌&&◌, eqb, ltb, leb, List, [], ◌∷◌, length, ℤ, pos, negsuc, nat_abs, count_by, refl, ap, arith}
use Rattle.std.proofs.lemmas.List.Sums.{sum_by-cons}
use Rattle.std.proofs.lemmas.Bool.Decides.{nat_tests}
use Rattle.std.proofs.lemmas.Bool.{and_parts, or_parts, leb-true, lt-ltb, eqb-true, not-true, both_ways}
use Rattle.recipes.specs.declared.places.Place.{Place}
use Rattle.recipes.specs.Places.{stands_at, taken, limited, IsLimited}
use Rattle.std.specs.List.{list_all}
use Rattle.recipes.specs.Lawful.{apart}
use Rattle.recipes.proofs.Spots.{same_itself}

-- what the limits say
pub limits : (p : Place) → limited p ≡ true → IsLimited p
limits p e =
    let a = and_parts (leb (nat_abs p.dx) 3 && leb (nat_abs p.dy) 3) (leb (nat_abs p.amount) 1024) e in
    let b = and_parts (leb (nat_abs p.dx) 3) (leb (nat_abs p.dy) 3) a.0 in
    record { across = leb-true (nat_abs p.dx) 3 b.0; down = leb-true (nat_abs p.dy) 3 b.1; deep = leb-true (nat_abs p.amount) 1024 a.1 }

-- an offset, counted from −3
abbrev shifted : ℤ → ℕ
shifted (pos n) = n + 3
shifted (negsuc n) = 2 - n

shifted_below : (z : ℤ) → nat_abs z ≤ 3 → shifted z ≤ 6
shifted_below (pos n) h = omega arith
shifted_below (negsuc n) h = omega arith

shifted_one : (a b : ℤ) → nat_abs a ≤ 3 → nat_abs b ≤ 3 → shifted a ≡ shifted b → a ≡ b
shifted_one (pos a) (pos b) h k e = ap pos (omega arith)
shifted_one (pos a) (negsuc b) h k e = absurd (omega arith)
shifted_one (negsuc a) (pos b) h k e = absurd (omega arith)
shifted_one (negsuc a) (negsuc b) h k e = ap negsuc (omega arith)

-- the number of a place's cell in the square of 7 by 7
cell : Place → ℕ
cell p = 7 * shifted p.dy + shifted p.dx

cell_below : (p : Place) → IsLimited p → cell p < 49
unfolding cell
cell_below p l = omega (arith, shifted_below p.dx l.across, shifted_below p.dy l.down)

-- one cell, one spot
cell_one : (p q : Place) → IsLimited p → IsLimited q → cell q ≡ cell p → stands_at p.dx p.dy q ≡ true
unfolding cell
cell_one p q l m e =
    let a = shifted_below p.dx l.across in
    let b = shifted_below q.dx m.across in
    let x : shifted q.dx ≡ shifted p.dx = omega arith in
    let y : shifted q.dy ≡ shifted p.dy = omega arith in
    rw (shifted_one q.dx p.dx m.across l.across x, shifted_one q.dy p.dy m.down l.down y, same_itself p.dx, same_itself p.dy)

-- how many places lie in a cell, and in the cells before it
abbrev in_cell : ℕ → List Place → ℕ
in_cell n ps = count_by (λ p. eqb (cell p) n) ps

abbrev in_cells : ℕ → List Place → ℕ
in_cells n ps = count_by (λ p. ltb (cell p) n) ps

here : (n m : ℕ) → cond {A = ℕ} (ltb m (suc n)) 1 0 ≡ cond (ltb m n) 1 0 + cond (eqb m n) 1 0
here n m = grind (arith, nat_tests)

in_cells_suc : (n : ℕ) (ps : List Place) → in_cells (suc n) ps ≡ in_cells n ps + in_cell n ps
in_cells_suc n [] = refl
in_cells_suc n (p ∷ ps) =
    let a = sum_by-cons (λ q. cond {A = ℕ} (ltb (cell q) (suc n)) 1 0) p ps in
    let b = sum_by-cons (λ q. cond {A = ℕ} (ltb (cell q) n) 1 0) p ps in
    let d = sum_by-cons (λ q. cond {A = ℕ} (eqb (cell q) n) 1 0) p ps in
    omega (arith, here n (cell p), in_cells_suc n ps)

-- the cell of a place that stands apart from all others is theirs no more
in_cell_none : (p : Place) (ps : List Place) → IsLimited p → list_all limited ps ≡ true → taken p.dx p.dy ps ≡ false → in_cell (cell p) ps ≡ 0
in_cell_none p [] l e t = refl
in_cell_none p (q ∷ ps) l e t =
    let a = and_parts (limited q) (list_all limited ps) e in
    let b = or_parts (stands_at p.dx p.dy q) (taken p.dx p.dy ps) t in
    let d = sum_by-cons (λ r. cond {A = ℕ} (eqb (cell r) (cell p)) 1 0) q ps in
    let go : (x : Bool) → eqb (cell q) (cell p) ≡ x → cond {A = ℕ} x 1 0 ≡ 0 = λ x. elim x as (λ x. eqb (cell q) (cell p) ≡ x → cond {A = ℕ} x 1 0 ≡ 0) [
      | true ↦ λ h. absurd (both_ways (stands_at p.dx p.dy q) b.0 (cell_one p q l (limits q a.0) (eqb-true (cell q) (cell p) h)))
      | false ↦ λ h. refl
    ] in
    omega (arith, go (eqb (cell q) (cell p)) refl, in_cell_none p ps l a.1 b.1)

in_cell_once : (n : ℕ) (ps : List Place) → list_all limited ps ≡ true → apart ps ≡ true → in_cell n ps ≤ 1
unfolding apart
in_cell_once n [] e t = omega arith
in_cell_once n (p ∷ ps) e t =
    let a = and_parts (limited p) (list_all limited ps) e in
    let b = and_parts (not (taken p.dx p.dy ps)) (apart ps) t in
    let d = sum_by-cons (λ r. cond {A = ℕ} (eqb (cell r) n) 1 0) p ps in
    let go : (x : Bool) → eqb (cell p) n ≡ x → cond {A = ℕ} x 1 0 + in_cell n ps ≤ 1 = λ x. elim x as (λ x. eqb (cell p) n ≡ x → cond {A = ℕ} x 1 0 + in_cell n ps ≤ 1) [
      | true ↦ λ h. let k = eqb-true (cell p) n h in let z = in_cell_none p ps (limits p a.0) a.1 (not-true (taken p.dx p.dy ps) b.0) in rw (← k) (omega arith)
      | false ↦ λ h. omega (arith, in_cell_once n ps a.1 b.1)
    ] in
    omega (arith, go (eqb (cell p) n) refl)

in_cells_zero : (ps : List Place) → in_cells 0 ps ≡ 0
in_cells_zero [] = refl
in_cells_zero (p ∷ ps) =
    let d = sum_by-cons (λ r. cond {A = ℕ} (ltb (cell r) 0) 1 0) p ps in
    let h : cond {A = ℕ} (ltb (cell p) 0) 1 0 ≡ 0 = grind (arith, nat_tests) in
    omega (arith, in_cells_zero ps)

in_cells_few : (n : ℕ) (ps : List Place) → list_all limited ps ≡ true → apart ps ≡ true → in_cells n ps ≤ n
in_cells_few zero ps e t = omega (arith, in_cells_zero ps)
in_cells_few (suc n) ps e t = omega (arith, in_cells_suc n ps, in_cells_few n ps e t, in_cell_once n ps e t)

in_cells_all : (ps : List Place) → list_all limited ps ≡ true → in_cells 49 ps ≡ length ps
in_cells_all [] e = refl
in_cells_all (p ∷ ps) e =
    let a = and_parts (limited p) (list_all limited ps) e in
    let d = sum_by-cons (λ r. cond {A = ℕ} (ltb (cell r) 49) 1 0) p ps in
    let h : cond {A = ℕ} (ltb (cell p) 49) 1 0 ≡ 1 = rw (lt-ltb (cell p) 49 (cell_below p (limits p a.0))) in
    omega (arith, in_cells_all ps a.1)

pub room : (ps : List Place) → list_all limited ps ≡ true → apart ps ≡ true → length ps ≤ 49
room ps e t = omega (arith, in_cells_all ps e, in_cells_few 49 ps e t)
