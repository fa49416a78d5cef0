-- Areas that lose one row after another, until none is left.
use Rattle.std.proofs.Common.{◌≡◌, ℕ, zero, suc, ◌-◌, min, true, List, [], ◌∷◌, Some, None, sym, refl, ap, ◌∙◌, inl, inr, arith}
use Rattle.std.proofs.lemmas.Bool.{and_parts, cases_lt}
use Rattle.planes.specs.declared.size.Size.{Size}
use Rattle.areas.specs.Rects.{fits}
use Rattle.areas.specs.Areas.{Area, area_fits, areas_fit, dropped, stale_rows, last_area}
use Rattle.areas.proofs.Fitting.{fits_true, areas_fit_dropped}
use Rattle.areas.proofs.Dropping.{rows_dropped}
use Rattle.calls.specs.History.{less}

-- they stay on the card
pub areas_fit_less : (size : Size) (n : ℕ) (bs : List Area) → areas_fit size bs ≡ true → areas_fit size (less n bs) ≡ true
unfolding less
areas_fit_less size zero bs e = e
areas_fit_less size (suc n) bs e = areas_fit_dropped size (less n bs) (areas_fit_less size n bs e)

-- so many rows fewer
pub rows_less : (size : Size) (n : ℕ) (bs : List Area) → areas_fit size bs ≡ true → stale_rows (less n bs) ≡ stale_rows bs - n
unfolding less
rows_less size zero bs e = omega arith
rows_less size (suc n) bs e = omega (arith, rows_less size n bs e, rows_dropped size (less n bs) (areas_fit_less size n bs e))

-- an area on the card has a row
some_rows : (size : Size) (a : Area) (bs : List Area) → areas_fit size (a ∷ bs) ≡ true → stale_rows (a ∷ bs) ≡ 0 → a ≡ None
unfolding areas_fit stale_rows
some_rows size None bs e z = refl
some_rows size (Some r) bs e z = let f = fits_true size r (and_parts (fits size r) (areas_fit size bs) e).0 in absurd (omega arith)

-- where no row is left, the other areas have none either
rest_clean : (size : Size) (a : Area) (bs : List Area) → areas_fit size (a ∷ bs) ≡ true → stale_rows (a ∷ bs) ≡ 0 → (areas_fit size bs ≡ true) × (stale_rows bs ≡ 0)
unfolding areas_fit stale_rows
rest_clean size a bs e z = ((and_parts (area_fits size a) (areas_fit size bs) e).1, omega arith)

-- where no row is left, nothing is dropped
dropped_clean : (size : Size) (bs : List Area) → areas_fit size bs ≡ true → stale_rows bs ≡ 0 → dropped bs ≡ bs
unfolding dropped
dropped_clean size [] e z = refl
dropped_clean size (None ∷ bs) e z = let r = rest_clean size None bs e z in ap (λ t. None ∷ t) (dropped_clean size bs r.0 r.1)
dropped_clean size (Some r ∷ bs) e z = let n = some_rows size (Some r) bs e z in let o : ◌≡◌ {A = ℕ} 0 1 = cc in absurd (omega arith)

-- and the last stage has no area
pub last_clean : (size : Size) (bs : List Area) → areas_fit size bs ≡ true → stale_rows bs ≡ 0 → last_area bs ≡ None
unfolding last_area
last_clean size [] e z = refl
last_clean size (a ∷ []) e z = some_rows size a [] e z
last_clean size (a ∷ (b ∷ bs)) e z = let r = rest_clean size a (b ∷ bs) e z in last_clean size (b ∷ bs) r.0 r.1

-- a budget beyond the rows that are left changes no more than they do
pub less_within : (size : Size) (n : ℕ) (bs : List Area) → areas_fit size bs ≡ true → less (min n (stale_rows bs)) bs ≡ less n bs
unfolding less
less_within size zero bs e = let z : min zero (stale_rows bs) ≡ 0 = omega arith in rw z
less_within size (suc n) bs e = elim (cases_lt n (stale_rows bs)) [
  | inl l ↦ let z : min (suc n) (stale_rows bs) ≡ suc n = omega arith in rw z
  | inr l ↦
      let z : min (suc n) (stale_rows bs) ≡ min n (stale_rows bs) = omega arith in
      ap (λ k. less k bs) z
      ∙ (less_within size n bs e
      ∙ sym (dropped_clean size (less n bs) (areas_fit_less size n bs e) (omega (arith, rows_less size n bs e))))
]
