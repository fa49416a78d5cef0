-- The first column of a piece that is stale.
use Rattle.std.proofs.Common.{◌≡◌, ℕ, ◌+◌, ◌<◌, ◌≤◌, max, true, false, Some, None, arith}
use Rattle.std.proofs.lemmas.Bool.Decides.{nat_tests}
use Rattle.std.proofs.lemmas.Bool.{cond_both}
use Rattle.areas.specs.declared.rect.Rect.{Rect}
use Rattle.areas.specs.Rects.{Holds}
use Rattle.areas.specs.Areas.{Area, crosses, met, FirstMet}

-- the same as orders
record Crosses (r : Rect) (x y n : ℕ) : Type 0 where
  top : r.top ≤ y
  bottom : y < r.bottom
  column : max x r.left < r.right
  piece : max x r.left < x + n

crosses_true : (r : Rect) (x y n : ℕ) → crosses r x y n ≡ true → Crosses r x y n
crosses_true r x y n e = record { top = grind (arith, nat_tests); bottom = grind (arith, nat_tests); column = grind (arith, nat_tests); piece = grind (arith, nat_tests) }

apart : (r : Rect) (x y n c : ℕ) → crosses r x y n ≡ false → x ≤ c → c < x + n → Holds r c y → ⊥
apart r x y n c e p q h =
    let t : crosses r x y n ≡ true = grind (arith, nat_tests) in
    let z : false ≡ true = cc in grind arith

pub met_first : (a : Area) (x y n : ℕ) → FirstMet a x y n (met a x y n)
met_first None x y n = record { none = λ c p q s. s }
met_first (Some r) x y n =
    cond_both (crosses r x y n) (Some (max x r.left)) None (FirstMet (Some r) x y n)
    (λ e. let h = crosses_true r x y n e in record {
      from = omega arith;
      up_to = h.piece;
      stale_there = record { from_left = omega arith; to_right = h.column; from_top = h.top; to_bottom = h.bottom };
      first = λ d p q s. omega arith;
    })
    (λ e. record { none = λ c p q s. apart r x y n c e p q s })
