-- Where a pixel is far enough from the edges, every tap of a flat stage falls on the card and lowers nothing.
use Rattle.std.proofs.Common.{◌≡◌, ℕ, zero, suc, ◌+◌, ◌<◌, ◌≤◌, true, length, get_or, ℤ, pos, negsuc, ◌+ℤ◌, neg_ℤ, unsigned_abs, ap, arith}
use Rattle.std.proofs.lemmas.Bool.Decides.{nat_tests}
use Rattle.planes.specs.declared.size.Size.{Size}
use Rattle.recipes.specs.declared.recipe.Operation.{Operation}
use Rattle.recipes.specs.declared.recipe.Operation.TheVariants.{Erosion, Dilation}
use Rattle.recipes.specs.declared.recipe.Stage.{Stage}
use Rattle.recipes.specs.Placed.{placed}
use Rattle.recipes.specs.Places.{origin}
use Rattle.recipes.proofs.Elements.{place_limited}
use Rattle.stages.specs.Stages.{on_card}
use Rattle.stages.specs.Taps.{IsFlat, IsInner, IsNear, tap_of, turned}

-- a coordinate at least 3 from both ends, moved by at most 3
within : (n x : ℕ) (d : ℤ) → 3 ≤ x → x + 3 < n → unsigned_abs d ≤ 3 → on_card n (pos x +ℤ d) ≡ true
within n zero d low high few = absurd (omega arith)
within n (suc zero) d low high few = absurd (omega arith)
within n (suc (suc zero)) d low high few = absurd (omega arith)
within n (suc (suc (suc x))) (pos k) low high few = grind (arith, nat_tests)
within n (suc (suc (suc x))) (negsuc zero) low high few = grind (arith, nat_tests)
within n (suc (suc (suc x))) (negsuc (suc zero)) low high few = grind (arith, nat_tests)
within n (suc (suc (suc x))) (negsuc (suc (suc zero))) low high few = grind (arith, nat_tests)
within n (suc (suc (suc x))) (negsuc (suc (suc (suc k)))) low high few = absurd (omega arith)

turned_few : (o : Operation) (d : ℤ) → unsigned_abs d ≤ 3 → unsigned_abs (turned o d) ≤ 3
turned_few Erosion d few = few
turned_few Dilation (pos zero) few = few
turned_few Dilation (pos (suc n)) few = few
turned_few Dilation (negsuc n) few = few

turned_none : (o : Operation) (a : ℤ) → a ≡ pos 0 → turned o a ≡ pos 0
turned_none Erosion a none = none
turned_none Dilation a none = ap neg_ℤ none

pub near_tap : (size : Size) (s : Stage) (x y i : ℕ) → i < length (placed s.element) → IsFlat s.element → IsInner size x y → IsNear size x y (tap_of s (get_or (placed s.element) i origin))
near_tap size s x y i h flat (left, right, top, bottom) =
    let p = get_or (placed s.element) i origin in
    let limits = place_limited s.element i origin h in (
      within size.width x (turned s.operation p.dx) left right (turned_few s.operation p.dx limits.across),
      within size.height y (turned s.operation p.dy) top bottom (turned_few s.operation p.dy limits.down),
      turned_none s.operation p.amount (flat i h),
    )
