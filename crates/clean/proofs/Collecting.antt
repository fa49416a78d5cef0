-- The rows that a card hands out, one after another.
use Rattle.std.proofs.Common.{◌≡◌, ℕ, zero, suc, ◌+◌, ◌<◌, Bool, true, false, cond, List, [], ◌∷◌, ◌++◌, length, get_or, take, drop, is_ok, Some, None, Ok, Err, Option, Result, sym, refl, ap, ◌∙◌, subst, add-one, arith, Bor}
use Rattle.std.proofs.lemmas.List.{get_or-take, get_or-drop}
use Rattle.std.proofs.lemmas.Int.{ints, clamps}
use Rattle.std.proofs.lemmas.Bool.{false≢true}
use Rattle.planes.specs.declared.size.Size.{Size}
use Rattle.planes.specs.Sizes.{cell, start}
use Rattle.areas.specs.declared.rect.Rect.{Rect}
use Rattle.areas.specs.Areas.{last_area, met}
use Rattle.areas.specs.Rects.{rect_on}
use Rattle.stages.specs.Planes.{line}
use Rattle.filters.specs.Restaging.{lines}
use Rattle.tones.specs.Greys.{greys}
use Rattle.tones.specs.declared.greys.Grey.{Grey}
use Rattle.calls.specs.declared.refusals.Refusal.{Refusal}
use Rattle.calls.specs.Calls.{Notes, State, piece}
use Rattle.calls.specs.Calls.Answer.{Piece, Refused}
use Rattle.calls.specs.Calls.Call.{Row}
use Rattle.calls.specs.Outcomes.{Outcome, answer_by, misfit, open_with, row_answer}
use Rattle.calls.specs.History.{accepted}
use Rattle.clean.specs.Cleaning.{HandsOut, Shades}
use Rattle.clean.proofs.Running.{refused}

-- the rows of a list that counts as a picture's row
lined : (f : Shades) (y n x : ℕ) (p : List ℕ) → length p ≡ n → ((i : ℕ) → i < n → get_or p i 0 ≡ greys.row (f (x + i) y)) → p ≡ line greys f y x n
unfolding line
lined f y zero x [] l h = refl
lined f y zero x (t ∷ ts) l h = absurd (omega arith)
lined f y (suc n) x [] l h = absurd (omega arith)
lined f y (suc n) x (t ∷ ts) l h =
    let here : x + 0 ≡ x = omega arith in
    let head : t ≡ greys.row (f x y) = h 0 (omega arith) ∙ ap (λ u. greys.row (f u y)) here in
    let long : length ts ≡ n = omega arith in
    let next : (i : ℕ) → x + suc i ≡ suc x + i = λ i. omega arith in
    let tail = lined f y n (suc x) ts long (λ i k. h (suc i) (omega arith) ∙ ap (λ u. greys.row (f u y)) (next i)) in
    ap (λ a. a ∷ ts) head ∙ ap (λ q. greys.row (f x y) ∷ q) tail

-- a byte that counts as a grey is its row
byte_row : (n : ℕ) (t : Grey) → n < 256 → greys.counted n ≡ t → n ≡ greys.row t
byte_row n t b e =
    let level : (greys.counted n).level ≡ t.level = ap (λ (u : Grey). u.level) e in
    omega (arith, ints, clamps)

-- bytes
abbrev pub Bytes : List ℕ → Type 0
Bytes m = (i : ℕ) → get_or m i 0 < 256

part_bytes : (m : List ℕ) (k n i : ℕ) → Bytes m → i < n → get_or (take n (drop k m)) i 0 < 256
part_bytes m k n i b l = subst (λ v. v < 256) (sym (get_or-take n (drop k m) i 0 l ∙ get_or-drop k m i 0)) (b (k + i))

row_part : (r : Option Rect) (q : List ℕ) (c : Option ℕ) (p : List ℕ) → Piece p ≡ row_answer greys r q c → p ≡ q
row_part None q c p e = cc
row_part (Some r) q None p e = cc
row_part (Some r) q (Some c) p e = cc

fitting : (b : Bool) (r : Option Rect) (q : List ℕ) (c : Option ℕ) (p : List ℕ) → Piece p ≡ cond b (Refused 14) (row_answer greys r q c) → p ≡ q
fitting true r q c p e = cc
fitting false r q c p e = row_part r q c p e

-- a piece that is handed out is a part of the memory
piece_part : (n : Option Notes) (w : ℕ → ℕ) (m : List ℕ) (x y k : ℕ) (p : List ℕ) → Piece p ≡ answer_by greys w m n (Row x y k) → (j : ℕ) × (p ≡ take k (drop j m))
piece_part None w m x y k p e = let z : ◌≡◌ {A = ℕ} 0 1 = cc in absurd (omega arith)
piece_part (Some n) w m x y k p e =
    let j = start n.size (length n.recipe) + cell n.size x y in
    (j, fitting (misfit (open_with greys w m n) (Row x y k)) (rect_on n.size x y k 1) (take k (drop j m)) (met (last_area n.areas) x y k) p e)

piece_ok : (r : Result (Bor (List ℕ)) Refusal) (p : List ℕ) → piece r ≡ Piece p → is_ok r ≡ true
piece_ok (Ok q) p e = refl
piece_ok (Err f) p e = absurd (false≢true (sym (refused f) ∙ ap accepted e))

-- a row that is handed out is not refused
pub row_is_ok : (at to : State ℕ) (s : Size) (f : Shades) (y : ℕ) (r : Result (Bor (List ℕ)) Refusal) → HandsOut at s f → y < s.height → Outcome greys at (Row 0 y s.width) (piece r) to → is_ok r ≡ true
row_is_ok at to s f y r hands inside o =
    let h = hands y inside (piece r) to o in
    piece_ok r h.0 h.1

-- and it is the picture's row
pub row_is_right : (at to : State ℕ) (s : Size) (f : Shades) (y : ℕ) (r : Result (Bor (List ℕ)) Refusal) (q : Bor (List ℕ)) → Bytes at.memory → HandsOut at s f → y < s.height → Outcome greys at (Row 0 y s.width) (piece r) to → r ≡ Ok q → q.now ≡ line greys f y 0 s.width
row_is_right at to s f y r q bytes hands inside o is =
    let h = hands y inside (piece r) to o in
    let p = h.0 in
    let given : Piece p ≡ answer_by greys at.weights at.memory at.notes (Row 0 y s.width) = sym h.1 ∙ o.answer in
    let j = piece_part at.notes at.weights at.memory 0 y s.width p given in
    let same : piece {R = ℕ} (Ok q) ≡ Piece p = ap piece (sym is) ∙ h.1 in
    let it : q.now ≡ p = cc in
    let small : (i : ℕ) → i < s.width → get_or p i 0 < 256 = λ i k. subst (λ l. get_or l i 0 < 256) (sym j.1) (part_bytes at.memory j.0 s.width i bytes k) in
    let column : (i : ℕ) → i ≡ 0 + i = λ i. omega arith in
    it ∙ lined f y s.width 0 p h.2.long (λ i k. byte_row (get_or p i 0) (f i y) (small i k) (h.2.tones i k) ∙ ap (λ u. greys.row (f u y)) (column i))

-- no rows, and one row more
pub lines_none : (s : Size) (f : Shades) → lines greys s f 0 ≡ []
unfolding lines
lines_none s f = refl

pub lines_next : (s : Size) (f : Shades) (y : ℕ) (old new row : List ℕ) → old ≡ lines greys s f y → row ≡ line greys f y 0 s.width → new ≡ old ++ row → new ≡ lines greys s f (y + 1)
unfolding lines
lines_next s f y old new row a b c = rw add-one (c ∙ ap (λ l. l ++ row) a ∙ ap (λ l. lines greys s f y ++ l) b)
