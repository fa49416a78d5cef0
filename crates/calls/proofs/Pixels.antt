-- Whether a rectangle has a pixel.
use Rattle.std.proofs.Common.{◌≡◌, ℕ, ◌+◌, Bool, true, false, ltb, ◌⊎◌, Some, None, refl, inl, inr, arith}
use Rattle.std.proofs.lemmas.Bool.{cond_both, ltb-false}
use Rattle.std.proofs.lemmas.Bool.Decides.{nat_tests}
use Rattle.areas.specs.declared.rect.Rect.{Rect}
use Rattle.areas.specs.Rects.{Holds, joined, lessened}
use Rattle.areas.specs.Areas.{Area, Stale}
use Rattle.calls.specs.History.{holds}

pub holds_true : (r : Rect) (x y : ℕ) → holds r x y ≡ true → Holds r x y
holds_true r x y e = record { from_left = grind (arith, nat_tests); to_right = grind (arith, nat_tests); from_top = grind (arith, nat_tests); to_bottom = grind (arith, nat_tests) }

pub true_holds : (r : Rect) (x y : ℕ) → Holds r x y → holds r x y ≡ true
true_holds r x y h = grind (arith, nat_tests)

pub false_holds : (r : Rect) (x y : ℕ) → (Holds r x y → ⊥) → holds r x y ≡ false
false_holds r x y n = go (holds r x y) refl
  where
    go : (b : Bool) → holds r x y ≡ b → holds r x y ≡ false
    go true e = absurd (n (holds_true r x y e))
    go false e = e

pub cases_holds : (r : Rect) (x y : ℕ) → Holds r x y ⊎ (Holds r x y → ⊥)
cases_holds r x y = go (holds r x y) refl
  where
    go : (b : Bool) → holds r x y ≡ b → Holds r x y ⊎ (Holds r x y → ⊥)
    go true e = inl (holds_true r x y e)
    go false e = inr (λ h. let t = true_holds r x y h in let z : false ≡ true = cc in grind arith)

-- a pixel below the top row stays without that row
pub lower_stale : (r : Rect) (x y : ℕ) → Holds r x y → (y ≡ r.top → ⊥) → Stale (lessened r) x y
lower_stale r x y h t =
    cond_both (ltb (r.top + 1) r.bottom) _ _ (λ a. Stale a x y)
    (λ e. record { from_left = h.from_left; to_right = h.to_right; from_top = omega arith; to_bottom = h.to_bottom })
    (λ e. let b = ltb-false (r.top + 1) r.bottom e in absurd (t (omega arith)))

-- a joined rectangle holds the pixels of the old area
pub joined_old : (r : Rect) (a : Area) (x y : ℕ) → Stale a x y → Holds (joined r a) x y
joined_old r None x y h = absurd h
joined_old r (Some o) x y h = record { from_left = omega arith; to_right = omega arith; from_top = omega arith; to_bottom = omega arith }
