-- Planes that are read and written in one memory.
use Rattle.std.proofs.Common.{◌≡◌, ℕ, zero, suc, ◌+◌, ◌-◌, ◌<◌, ◌≤◌, true, cond, ltb, List, [], ◌∷◌, ◌++◌, length, get_or, take, drop, set, sym, refl, ap, ◌∙◌, subst, le_refl, arith}
use Rattle.std.proofs.lemmas.List.{append_assoc, length-append, length-take-le, length_push, get_or_append_left, get_or-take, get_or-drop, set_at, drop_more, take-append-drop}
use Rattle.std.proofs.lemmas.Bool.{le-ltb, lt-ltb}
use Rattle.planes.specs.declared.size.Size.{Size}
use Rattle.planes.specs.Sizes.{area, cell}
use Rattle.planes.proofs.Cells.{cell_within}
use Rattle.recipes.specs.declared.recipe.Stage.{Stage}
use Rattle.tones.specs.Kind.{Kind}
use Rattle.stages.specs.Planes.{blank, picture, line, overwritten}
use Rattle.stages.specs.Rows.{last_window, row_made, row_weights}
use Rattle.stages.specs.Stages.{Picture, bag, cleaned}
use Rattle.stages.proofs.Pictures.{SameOnCard, bag_same, cleaned_same}

pub overwritten_none : {R : Type 0} (m : List R) (i : ℕ) → overwritten m i [] ≡ m
overwritten_none m i = let e : i + 0 ≡ i = omega arith in ap (λ j. take i m ++ drop j m) e ∙ take-append-drop i m

-- one more, as a loop writes
pub overwritten_more : {R : Type 0} (m new : List R) (i : ℕ) (r : R) → i + length new < length m → set (overwritten m i new) (i + length new) r ≡ overwritten m i (new ++ r ∷ [])
overwritten_more m new i r h =
    let j = i + length new in
    let front = take i m ++ new in
    let long : length front ≡ j = omega (arith, length-append (take i m) new, length-take-le i m (omega (arith, h))) in
    let rest = drop_more m j r h in
    let open' : overwritten m i new ≡ front ++ get_or m j r ∷ drop (j + 1) m = sym (append_assoc (take i m) new (drop j m)) ∙ ap (λ l. front ++ l) rest in
    let next : i + length (new ++ r ∷ []) ≡ j + 1 = omega (arith, length_push new r) in
    ap (λ l. set l j r) open'
    ∙ set_at front (get_or m j r) (drop (j + 1) m) r j long
    ∙ append_assoc (take i m) new (r ∷ drop (j + 1) m)
    ∙ ap (λ l. take i m ++ l) (sym (append_assoc new (r ∷ []) (drop (j + 1) m)))
    ∙ ap (λ n. take i m ++ ((new ++ r ∷ []) ++ drop n m)) (sym next)

-- what stands before is as it was
pub overwritten_before : {R : Type 0} (m new : List R) (i n : ℕ) (d : R) → n < i → i ≤ length m → get_or (overwritten m i new) n d ≡ get_or m n d
overwritten_before m new i n d h l =
    get_or_append_left (take i m) (new ++ drop (i + length new) m) d n (omega (arith, h, length-take-le i m l)) ∙ get_or-take i m n d h

-- no pixel, then one more
pub last_window_none : (bags : ℕ → ℕ → ℕ) (before : ℕ → ℕ) (left c : ℕ) → before c ≡ last_window bags before left left c
last_window_none bags before left c = sym (ap (λ b. cond {A = ℕ} b (bags (left - 1) c) (before c)) (le-ltb left left (le_refl left)))

pub last_window_more : (bags : ℕ → ℕ → ℕ) (before : ℕ → ℕ) (left x c : ℕ) → left ≤ x → bags x c ≡ last_window bags before left (x + 1) c
last_window_more bags before left x c h =
    let some : ltb left (x + 1) ≡ true = lt-ltb left (x + 1) (omega (arith, h)) in
    let last : x ≡ x + 1 - 1 = omega arith in
    ap (λ u. bags u c) last ∙ sym (ap (λ b. cond {A = ℕ} b (bags (x + 1 - 1) c) (before c)) some)

module _ {T R : Type 0} (K : Kind T R) where
  pub line_none : (f : Picture T) (y x : ℕ) → line K f y x 0 ≡ []
  unfolding line
  line_none f y x = refl

  pub line_length : (f : Picture T) (y x n : ℕ) → length (line K f y x n) ≡ n
  unfolding line
  line_length f y x zero = refl
  line_length f y x (suc n) = ap suc (line_length f y (suc x) n)

  pub line_more : (f : Picture T) (y x n : ℕ) → line K f y x (suc n) ≡ line K f y x n ++ K.row (f (x + n) y) ∷ []
  unfolding line
  line_more f y x zero = let e : x ≡ x + 0 = omega arith in ap (λ z. K.row (f z y) ∷ []) e
  line_more f y x (suc n) = let e : suc x + n ≡ x + suc n = omega arith in ap (λ l. K.row (f x y) ∷ l) (line_more f y (suc x) n ∙ ap (λ z. line K f y (suc x) n ++ K.row (f z y) ∷ []) e)

  -- a part of the memory is the plane that begins there
  pub part_same : (size : Size) (from n : ℕ) (m : List R) → n ≡ area size → SameOnCard size (picture K size 0 (take n (drop from m))) (picture K size from m)
  part_same size from n m e x y h j =
      let c = cell size x y in
      let z : 0 + c ≡ c = omega arith in
      ap K.counted (ap (λ k. get_or (take n (drop from m)) k (blank K)) z ∙ get_or-take n (drop from m) c (blank K) (omega (arith, e, cell_within size x y h j)) ∙ get_or-drop from m c (blank K))

  -- a plane before what is overwritten is as it was
  pub overwritten_same : (size : Size) (from i : ℕ) (m new : List R) → from + area size ≤ i → i ≤ length m → SameOnCard size (picture K size from (overwritten m i new)) (picture K size from m)
  overwritten_same size from i m new h l x y p q =
      ap K.counted (overwritten_before m new i (from + cell size x y) (blank K) (omega (arith, h, cell_within size x y p q)) l)

  -- a row of which nothing is made yet
  pub row_start : (size : Size) (s : Stage) (from into y left : ℕ) (m : List R) → m ≡ row_made K size s from m y left left into
  row_start size s from into y left m =
      let f : Picture T = λ u v. cleaned K size s (picture K size from m) u v in
      let i = into + cell size left y in
      let e : left - left ≡ 0 = omega arith in
      sym (ap (λ n. overwritten m i (line K f y left n)) e ∙ ap (overwritten m i) (line_none f y left) ∙ overwritten_none m i)

  pub window_start : (size : Size) (s : Stage) (from y left : ℕ) (m : List R) (before : ℕ → ℕ) (c : ℕ) → before c ≡ row_weights K size s from m y left left before c
  window_start size s from y left m before c = last_window_none (λ u. bag K size s (picture K size from m) u y) before left c

  -- a row made as far as the column x, in another plane than the one that is read
  module _ (size : Size) (s : Stage) (from into : ℕ) (m : List R) (apart : from + area size ≤ into) (room : into + area size ≤ length m) (y : ℕ) (down : y < size.height) (left x : ℕ) (from_left : left ≤ x) (across : x < size.width) (now : List R) (so_far : now ≡ row_made K size s from m y left x into) where
    made_same : SameOnCard size (picture K size from now) (picture K size from m)
    made_same =
        let l = line K (λ u v. cleaned K size s (picture K size from m) u v) y left (x - left) in
        let fit : into + cell size left y ≤ length m = omega (arith, cell_within size x y across down, from_left, room) in
        subst (λ w. SameOnCard size (picture K size from w) (picture K size from m)) (sym so_far) (overwritten_same size from (into + cell size left y) m l (omega (arith, apart)) fit)

    -- one pixel more
    pub row_step : (next : List R) → next ≡ set now (into + cell size x y) (K.row (cleaned K size s (picture K size from now) x y)) → next ≡ row_made K size s from m y left (x + 1) into
    row_step next new =
        let f : Picture T = λ u v. cleaned K size s (picture K size from m) u v in
        let i = into + cell size left y in
        let n = x - left in
        let l = line K f y left n in
        let long : length l ≡ n = line_length f y left n in
        let at : into + cell size x y ≡ i + length l = omega (arith, long, from_left) in
        let fit : i + length l < length m = omega (arith, at, cell_within size x y across down, room) in
        let tone : cleaned K size s (picture K size from now) x y ≡ f x y = cleaned_same K size s (picture K size from now) (picture K size from m) made_same x y in
        let col : x ≡ left + n = omega (arith, from_left) in
        let end : suc n ≡ x + 1 - left = omega (arith, from_left) in
        new
        ∙ ap (λ t. set now (into + cell size x y) (K.row t)) tone
        ∙ ap (λ w. set w (into + cell size x y) (K.row (f x y))) so_far
        ∙ ap (λ k. set (overwritten m i l) k (K.row (f x y))) at
        ∙ overwritten_more m l i (K.row (f x y)) fit
        ∙ ap (λ u. overwritten m i (l ++ K.row (f u y) ∷ [])) col
        ∙ ap (overwritten m i) (sym (line_more f y left n))
        ∙ ap (λ k. overwritten m i (line K f y left k)) end

    -- the window of that pixel
    pub row_window : (before : ℕ → ℕ) (c : ℕ) → bag K size s (picture K size from now) x y c ≡ row_weights K size s from m y left (x + 1) before c
    row_window before c = bag_same K size s (picture K size from now) (picture K size from m) made_same x y c ∙ last_window_more (λ u. bag K size s (picture K size from m) u y) before left x c from_left
