-- Going through the areas, stage by stage.
use Rattle.std.proofs.Common.{◌≡◌, ℕ, zero, suc, ◌+◌, ◌-◌, ◌*◌, ◌<◌, ◌≤◌, min, true, List, [], ◌∷◌, ◌++◌, map, length, get_or, take, drop, set, replicate, Some, None, Option, sym, refl, ap, subst, inl, inr, add-one, arith}
use Rattle.std.proofs.lemmas.List.{drop_all, take_all, append-nil, take-append-drop}
use Rattle.std.proofs.lemmas.Bool.{and_parts, cases_lt}
use Rattle.std.proofs.lemmas.List.Sums.{sum_by-cons}
use Rattle.std.specs.List.{slice_get, sum_by, enumerate_from}
use Rattle.std.specs.Option.{unwrap_or}
use Rattle.planes.specs.declared.size.Size.{Size}
use Rattle.recipes.specs.declared.recipe.Stage.{Stage}
use Rattle.areas.specs.declared.rect.Rect.{Rect}
use Rattle.areas.specs.Rects.{Fits, widened, joined, lessened}
use Rattle.areas.specs.Areas.{Area, area_fits, areas_fit, FirstThere, spread, dropped, rows, stale_rows, lowest, lowest_from, last_area}
use Rattle.areas.proofs.Fitting.{fits_true, joined_fits, widened_fits}

-- the first places of an array with one value in all
pub take_same : {X Y : Type 0} (ss : List X) (n : ℕ) (y : Y) → length ss ≤ n → take (length ss) (replicate n y) ≡ map (λ s. y) ss
take_same [] n y h = refl
take_same (s ∷ ss) zero y h = absurd (omega arith)
take_same (s ∷ ss) (suc n) y h = ap (λ t. y ∷ t) (take_same ss n y (omega arith))

-- an area stands for the one before it, and the spread goes on from there
spread_suc : (size : Size) (ss : List Stage) (r n : Rect) (bs : List Area) (i : ℕ) → i < length bs → i < length ss → ((s : Stage) → n ≡ joined (widened size (get_or ss i s) r) (get_or bs i None)) →
    take i bs ++ spread size (drop i ss) r (drop i bs) ≡ take (suc i) (set bs i (Some n)) ++ spread size (drop (suc i) ss) n (drop (suc i) (set bs i (Some n)))
unfolding spread
spread_suc size [] r n bs i p q f = absurd (omega arith)
spread_suc size (t ∷ ss) r n [] i p q f = absurd (omega arith)
spread_suc size (t ∷ ss) r n (a ∷ bs) zero p q f = rw (f t)
spread_suc size (t ∷ ss) r n (a ∷ bs) (suc i) p q f = ap (λ l. a ∷ l) (spread_suc size ss r n bs i (omega arith) (omega arith) f)

pub spread_more : (size : Size) (ss : List Stage) (r n : Rect) (bs : List Area) (i : ℕ) → i < length bs → i < length ss → ((s : Stage) → n ≡ joined (widened size (get_or ss i s) r) (get_or bs i None)) →
    take (i + 1) (set bs i (Some n)) ++ spread size (drop (i + 1) ss) n (drop (i + 1) (set bs i (Some n))) ≡ take i bs ++ spread size (drop i ss) r (drop i bs)
spread_more size ss r n bs i p q f = rw add-one (sym (spread_suc size ss r n bs i p q f))

-- the new area lies on the card
pub spread_fits : (size : Size) (ss : List Stage) (r n : Rect) (a : Area) (i : ℕ) → i < length ss → Fits size r → area_fits size a ≡ true → ((s : Stage) → n ≡ joined (widened size (get_or ss i s) r) a) → Fits size n
spread_fits size [] r n a i p f e g = absurd (omega arith)
spread_fits size (t ∷ ss) r n a i p f e g =
    let s = get_or (t ∷ ss) i t in
    subst (Fits size) (sym (g t)) (joined_fits size (widened size s r) a (widened_fits size s r f) e)

-- the lowest stage with an area by its place
nothing_lowest : (bs : List Area) (j : ℕ) → ((k : ℕ) → k < length bs → slice_get bs k ≡ Some None) → lowest_from j bs ≡ None
unfolding lowest_from
nothing_lowest [] j h = refl
nothing_lowest (None ∷ bs) j h = nothing_lowest bs (j + 1) (λ k l. h (suc k) (omega arith))
nothing_lowest (Some r ∷ bs) j h = let z = h 0 (omega arith) in absurd (grind arith)

first_lowest : (bs : List Area) (i j : ℕ) (r : Rect) → slice_get bs i ≡ Some (Some r) → ((k : ℕ) → k < i → slice_get bs k ≡ Some None) → lowest_from j bs ≡ Some (j + i, r)
unfolding lowest_from
first_lowest [] i j r e h = absurd (grind arith)
first_lowest (None ∷ bs) zero j r e h = absurd (grind arith)
first_lowest (None ∷ bs) (suc i) j r e h = let n : j + suc i ≡ j + 1 + i = omega arith in rw n (first_lowest bs i (j + 1) r e (λ k l. h (suc k) (omega arith)))
first_lowest (Some q ∷ bs) zero j r e h = let n : j + 0 ≡ j = omega arith in rw n cc
first_lowest (Some q ∷ bs) (suc i) j r e h = let z = h 0 (omega arith) in absurd (grind arith)

pub lowest_first : (bs : List Area) (o : Option (ℕ × Rect)) → FirstThere bs o → o ≡ lowest bs
lowest_first bs None h = sym (nothing_lowest bs 1 h)
lowest_first bs (Some p) h = let n : 1 + (p.0 - 1) ≡ p.0 = omega (arith, h.0) in sym (rw n at (first_lowest bs (p.0 - 1) 1 p.1 h.1 h.2))

-- where the lowest stage stands, and what is left of its area
pub record Lowest (j : ℕ) (bs : List Area) (k : ℕ) (r : Rect) : Type 0 where
  pub from : j ≤ k
  pub stands : k - j < length bs
  pub area : get_or bs (k - j) None ≡ Some r
  pub less : dropped bs ≡ set bs (k - j) (lessened r)
  pub lower : (i : ℕ) → i < k - j → get_or bs i None ≡ None

none_first : (bs : List Area) (n : ℕ) → ((i : ℕ) → i < n → get_or bs i None ≡ None) → (i : ℕ) → i < suc n → get_or (None ∷ bs) i None ≡ None
none_first bs n h zero p = refl
none_first bs n h (suc i) p = h i (omega arith)

lowest_next : (j : ℕ) (bs : List Area) (k : ℕ) (r : Rect) → Lowest (j + 1) bs k r → Lowest j (None ∷ bs) k r
unfolding dropped
lowest_next j bs k r l =
    let e : k - j ≡ suc (k - (j + 1)) = omega arith in
    record {
      from = omega arith;
      stands = omega arith;
      area = rw e l.area;
      less = rw e (ap (λ t. None ∷ t) l.less);
      lower = λ i h. none_first bs (k - (j + 1)) l.lower i (omega arith);
    }

pub lowest_is : (j : ℕ) (bs : List Area) (k : ℕ) (r : Rect) → lowest_from j bs ≡ Some (k, r) → Lowest j bs k r
unfolding lowest_from dropped
lowest_is j [] k r e = let z : ◌≡◌ {A = ℕ} 0 1 = cc in absurd (omega arith)
lowest_is j (None ∷ bs) k r e = lowest_next j bs k r (lowest_is (j + 1) bs k r e)
lowest_is j (Some q ∷ bs) k r e =
    let both : ◌≡◌ {A = ℕ × Rect} (j, q) (k, r) = cc in
    let f : j ≡ k = ap (λ t. t.0) both in
    let g : q ≡ r = ap (λ t. t.1) both in
    let h : k - j ≡ 0 = omega arith in
    record { from = omega arith; stands = omega arith; area = rw (h, g); less = rw (h, g); lower = λ i p. absurd (omega arith) }

-- without one nothing is dropped
pub lowest_nothing : (j : ℕ) (bs : List Area) → lowest_from j bs ≡ None → dropped bs ≡ bs
unfolding lowest_from dropped
lowest_nothing j [] e = refl
lowest_nothing j (None ∷ bs) e = ap (λ t. None ∷ t) (lowest_nothing (j + 1) bs e)
lowest_nothing j (Some q ∷ bs) e = let z : ◌≡◌ {A = ℕ} 0 1 = cc in absurd (omega arith)

-- the rows of all areas as a sum
pub rows_summed : (bs : List Area) → stale_rows bs ≡ sum_by rows bs
unfolding stale_rows
rows_summed [] = refl
rows_summed (a ∷ bs) = omega (arith, rows_summed bs, sum_by-cons rows a bs)

-- an area on the card has as many rows as the card at most
pub rows_most : (size : Size) (a : Area) → area_fits size a ≡ true → rows a ≤ size.height
rows_most size None e = omega arith
rows_most size (Some r) e = let f = fits_true size r e in omega arith

-- there are as many as rows and areas allow
pub rows_bounded : (size : Size) (bs : List Area) → size.height ≤ 256 → areas_fit size bs ≡ true → stale_rows bs ≤ 256 * length bs
unfolding areas_fit stale_rows
rows_bounded size [] h e = omega arith
rows_bounded size (a ∷ bs) h e =
    let p = and_parts (area_fits size a) (areas_fit size bs) e in
    omega (arith, rows_most size a p.0, rows_bounded size bs h p.1)

-- the last area as the last of the list
pub last_read : (bs : List Area) → last_area bs ≡ unwrap_or (slice_get bs (length bs - 1)) None
unfolding last_area
last_read [] = refl
last_read (a ∷ []) = refl
last_read (a ∷ (b ∷ bs)) = let n : length (a ∷ (b ∷ bs)) - 1 ≡ suc (length (b ∷ bs) - 1) = omega arith in rw n (last_read (b ∷ bs))

-- past the last stage or the last area nothing changes
spread_nil : (size : Size) (ss : List Stage) (r : Rect) → spread size ss r [] ≡ []
unfolding spread
spread_nil size [] r = refl
spread_nil size (s ∷ ss) r = refl

spread_none : (size : Size) (r : Rect) (bs : List Area) → spread size [] r bs ≡ bs
unfolding spread
spread_none size r bs = refl

pub spread_end : (size : Size) (ss : List Stage) (r : Rect) (bs : List Area) (i : ℕ) → min (length bs) (length ss) ≤ i → take i bs ++ spread size (drop i ss) r (drop i bs) ≡ bs
spread_end size ss r bs i h = elim (cases_lt i (length ss)) [
  | inl p ↦ let q : length bs ≤ i = omega arith in rw (drop_all i bs q, spread_nil size (drop i ss) r, take_all i bs q, append-nil bs)
  | inr p ↦ rw (drop_all i ss p, spread_none size r (drop i bs)) (take-append-drop i bs)
]

-- a spread keeps the number of areas
pub length_spread : (size : Size) (ss : List Stage) (r : Rect) (bs : List Area) → length (spread size ss r bs) ≡ length bs
unfolding spread
length_spread size [] r bs = refl
length_spread size (s ∷ ss) r [] = refl
length_spread size (s ∷ ss) r (a ∷ bs) = ap suc (length_spread size ss (joined (widened size s r) a) bs)

-- so does dropping a row
pub length_dropped : (bs : List Area) → length (dropped bs) ≡ length bs
unfolding dropped
length_dropped [] = refl
length_dropped (None ∷ bs) = ap suc (length_dropped bs)
length_dropped (Some r ∷ bs) = refl

-- the stages with their numbers, counted from j, as far as there are areas
pub numbered_at : (ss : List Stage) (n j k : ℕ) (d : ℕ × Stage) → k < length (take n (enumerate_from j ss)) → (k < n) × (k < length ss) × (get_or (take n (enumerate_from j ss)) k d ≡ (j + k, get_or ss k d.1))
numbered_at ss zero j k d h = absurd (omega arith)
numbered_at [] (suc n) j k d h = absurd (omega arith)
numbered_at (s ∷ ss) (suc n) j zero d h = let e : j + 0 ≡ j = omega arith in (omega arith, omega arith, rw e)
numbered_at (s ∷ ss) (suc n) j (suc k) d h =
    let r = numbered_at ss n (j + 1) k d (omega arith) in
    let e : j + suc k ≡ j + 1 + k = omega arith in
    (omega (arith, r.0), omega (arith, r.1), rw e r.2)

pub numbered_all : (ss : List Stage) (n j : ℕ) → length (take n (enumerate_from j ss)) ≡ min n (length ss)
numbered_all ss zero j = omega arith
numbered_all [] (suc n) j = omega arith
numbered_all (s ∷ ss) (suc n) j = omega (arith, numbered_all ss n (j + 1))
