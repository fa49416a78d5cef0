-- Dropping a row.
use Rattle.std.proofs.Common.{◌≡◌, ℕ, ◌+◌, ◌-◌, ◌<◌, true, false, ltb, List, [], ◌∷◌, get_or, Some, None, Option, sym, refl, ap, subst, inl, inr, arith}
use Rattle.std.proofs.lemmas.Bool.{and_parts, cond_both, ltb-true, ltb-false, lt-ltb, cases_eq}
use Rattle.std.proofs.lemmas.List.{get_or-set_same, get_or-set_other}
use Rattle.planes.specs.declared.size.Size.{Size}
use Rattle.areas.specs.declared.rect.Rect.{Rect}
use Rattle.areas.specs.Rects.{Holds, fits, lessened}
use Rattle.areas.specs.Areas.{Area, Stale, area_fits, areas_fit, dropped, rows, stale_rows, lowest_from, lowest, top_row, next_of}
use Rattle.areas.specs.Meanings.{some_stale, IsNext, NextIs, Leaves}
use Rattle.areas.proofs.Fitting.{fits_true, areas_fit_at}
use Rattle.areas.proofs.Walks.{Lowest, lowest_is, lowest_nothing}

rows_lessened : (r : Rect) → r.top < r.bottom → rows (lessened r) + 1 ≡ r.bottom - r.top
rows_lessened r h =
    cond_both (ltb (r.top + 1) r.bottom) _ _ (λ a. rows a + 1 ≡ r.bottom - r.top)
    (λ e. let t = ltb-true (r.top + 1) r.bottom e in omega arith)
    (λ e. let t = ltb-false (r.top + 1) r.bottom e in omega arith)

-- dropping a row lowers the count by one while it is not 0
pub rows_dropped : (size : Size) (bs : List Area) → areas_fit size bs ≡ true → stale_rows (dropped bs) ≡ stale_rows bs - 1
unfolding areas_fit dropped stale_rows
rows_dropped size [] e = refl
rows_dropped size (None ∷ bs) e = omega (arith, rows_dropped size bs e)
rows_dropped size (Some r ∷ bs) e =
    let f = fits_true size r (and_parts (fits size r) (areas_fit size bs) e).0 in
    omega (arith, rows_lessened r f.rows)

-- rows are left exactly when some stage has an area
pub rows_some : (size : Size) (bs : List Area) → areas_fit size bs ≡ true → ltb 0 (stale_rows bs) ≡ some_stale bs
unfolding areas_fit stale_rows some_stale
rows_some size [] e = refl
rows_some size (None ∷ bs) e = let z : 0 + stale_rows bs ≡ stale_rows bs = omega arith in rw z (rows_some size bs e)
rows_some size (Some r ∷ bs) e =
    let f = fits_true size r (and_parts (fits size r) (areas_fit size bs) e).0 in
    lt-ltb 0 (r.bottom - r.top + stale_rows bs) (omega arith)

-- where nothing is next, no stage has an area
none_next : (j : ℕ) (bs : List Area) → lowest_from j bs ≡ None → some_stale bs ≡ false
unfolding lowest_from some_stale
none_next j [] e = refl
none_next j (None ∷ bs) e = none_next (j + 1) bs e
none_next j (Some r ∷ bs) e = let z : ◌≡◌ {A = ℕ} 0 1 = cc in absurd (omega arith)

is_next : (size : Size) (bs : List Area) (k : ℕ) (r : Rect) → areas_fit size bs ≡ true → Lowest 1 bs k r → IsNext bs k r.top
is_next size bs k r e l =
    let g : area_fits size (Some r) ≡ true = rw l.area at (areas_fit_at size bs (k - 1) e) in
    let f = fits_true size r g in
    let P : ℕ → ℕ → Area → Type 0 = λ x z a. Stale a x z in
    record {
      counted = l.from;
      lower = λ i p q. l.lower (i - 1) (omega arith);
      column = r.left;
      row = subst (P r.left r.top) (sym l.area) (record { from_left = omega arith; to_right = omega arith; from_top = omega arith; to_bottom = omega arith });
      top = λ x z s. (subst (P x z) l.area s).from_top;
    }

pub next_is : (size : Size) (bs : List Area) → areas_fit size bs ≡ true → NextIs bs (next_of bs)
next_is size bs e =
    let go : (o : Option (ℕ × Rect)) → lowest bs ≡ o → NextIs bs (top_row o) = λ o. elim o as (λ o. lowest bs ≡ o → NextIs bs (top_row o)) [
      | None ↦ λ h. none_next 1 bs h
      | Some p ↦ λ h. is_next size bs p.0 p.1 e (lowest_is 1 bs p.0 p.1 h)
    ] in
    go (lowest bs) refl

-- the pixels of a rectangle less its top row
lessened_holds : (r : Rect) (x z : ℕ) → Stale (lessened r) x z → Holds r x z × (z ≡ r.top → ⊥)
lessened_holds r x z =
    cond_both (ltb (r.top + 1) r.bottom) _ _ (λ a. Stale a x z → Holds r x z × (z ≡ r.top → ⊥))
    (λ e h. (record { from_left = h.from_left; to_right = h.to_right; from_top = omega arith; to_bottom = h.to_bottom }, λ t. omega arith))
    (λ e h. absurd h)

holds_lessened : (r : Rect) (x z : ℕ) → Holds r x z → (z ≡ r.top → ⊥) → Stale (lessened r) x z
holds_lessened r x z h t =
    cond_both (ltb (r.top + 1) r.bottom) _ _ (λ a. Stale a x z)
    (λ e. record { from_left = h.from_left; to_right = h.to_right; from_top = omega arith; to_bottom = h.to_bottom })
    (λ e. let b = ltb-false (r.top + 1) r.bottom e in absurd (t (omega arith)))

leaves_here : (bs : List Area) (k : ℕ) (r : Rect) → Lowest 1 bs k r → Leaves bs (Some (k, r.top)) (dropped bs)
leaves_here bs k r l i x z p = elim (cases_eq (i - 1) (k - 1)) [
  | inl e ↦
      let one : i ≡ k = omega (arith, l.from) in
      let new : get_or (dropped bs) (i - 1) None ≡ lessened r = rw (l.less, e) (get_or-set_same bs (k - 1) (lessened r) None l.stands) in
      let old : get_or bs (i - 1) None ≡ Some r = rw e l.area in
      let P : Area → Type 0 = λ a. Stale a x z in (
        λ s. let h = lessened_holds r x z (subst P new s) in (subst P (sym old) h.0, λ q. h.1 q.1),
        λ s q. subst P (sym new) (holds_lessened r x z (subst P old s) (λ t. q (one, t))),
      )
  | inr d ↦
      let same : get_or (dropped bs) (i - 1) None ≡ get_or bs (i - 1) None = rw l.less (get_or-set_other bs (k - 1) (i - 1) (lessened r) None d) in
      let P : Area → Type 0 = λ a. Stale a x z in
      (λ s. (subst P same s, λ q. d (ap (λ n. n - 1) q.0)), λ s q. subst P (sym same) s)
]

pub leaves : (bs : List Area) → Leaves bs (next_of bs) (dropped bs)
leaves bs =
    let go : (o : Option (ℕ × Rect)) → lowest bs ≡ o → Leaves bs (top_row o) (dropped bs) = λ o. elim o as (λ o. lowest bs ≡ o → Leaves bs (top_row o) (dropped bs)) [
      | None ↦ λ h. lowest_nothing 1 bs h
      | Some p ↦ λ h. leaves_here bs p.0 p.1 (lowest_is 1 bs p.0 p.1 h)
    ] in
    go (lowest bs) refl
