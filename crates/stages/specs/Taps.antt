-- A window prepared for its stage: each place turned into a tap, by which an erosion reads. Assumes
-- nothing.
use Rattle.std.specs.Prelude.{◌≡◌, ℕ, ◌+◌, ◌<◌, ◌≤◌, Bool, true, if◌then◌else◌, ◌&&◌, length, ℤ, pos, ◌+ℤ◌, neg_ℤ, Some, None, Option, ◌==◌, unsigned_abs, slice_index_or}
use Rattle.planes.specs.declared.size.Size.{Size}
use Rattle.recipes.specs.Placed.{placed, order_of}
use Rattle.recipes.specs.Places.{origin}
use Rattle.recipes.specs.declared.element.Element.{Element}
use Rattle.recipes.specs.declared.places.Place.{Place}
use Rattle.recipes.specs.declared.recipe.Operation.{Operation}
use Rattle.recipes.specs.declared.recipe.Operation.TheVariants.{Erosion, Dilation}
use Rattle.recipes.specs.declared.recipe.Stage.{Stage}
use Rattle.selectors.specs.Bag.{below, held}
use Rattle.stages.specs.declared.taps.Tap.{Tap}
use Rattle.stages.specs.Stages.{Picture, on_card, weight}
use Rattle.tones.specs.Kind.{Kind}

-- an offset or amount as an erosion uses it: that of a dilation is turned round
abbrev pub turned : Operation → ℤ → ℤ
turned Erosion d = d
turned Dilation d = neg_ℤ d

-- the tap of a place
abbrev pub tap_of : Stage → Place → Tap
tap_of s p =
    record {
      dx = turned s.operation p.dx;
      dy = turned s.operation p.dy;
      weight = weight (order_of s.element) p;
      amount = turned s.operation p.amount;
    }

-- the column or row that lies d from x, of a card that has n of them
abbrev pub reached : ℕ → ℤ → ℕ → Option ℕ
reached x d n = if on_card n (pos x +ℤ d) then Some (unsigned_abs (pos x +ℤ d)) else None

-- a tap falls on the card at the pixel (x, y)
abbrev pub tap_inside : Size → ℕ → ℕ → Tap → Bool
tap_inside size x y t =
    on_card size.width (pos x +ℤ t.dx) && on_card size.height (pos y +ℤ t.dy)

module _ {T R : Type 0} (K : Kind T R) (size : Size) (f : Picture T) (x y : ℕ) where
  -- the tone that a tap finds at the pixel (x, y) of a picture
  abbrev pub tap_finds : Tap → T
  tap_finds t = f (unsigned_abs (pos x +ℤ t.dx)) (unsigned_abs (pos y +ℤ t.dy))

  -- the code of that tone, lowered
  abbrev pub tap_code : Tap → ℕ
  tap_code t = K.code (K.lowered (tap_finds t) t.amount)

  -- that code, where the tap falls on the card
  abbrev pub tap_reads : Tap → Option ℕ
  tap_reads t = if tap_inside size x y t then Some (tap_code t) else None

  -- what a tap adds to the weight of the code c
  abbrev pub tap_adds : Tap → ℕ → ℕ
  tap_adds t c = if tap_inside size x y t && tap_code t == c then t.weight else 0

-- a selector of range n takes one place more: at most 48 places of at most 49 each are in
abbrev pub TakesOneMore : (ℕ → ℕ) → ℕ → Type 0
TakesOneMore w n = (held w n ≤ 48) × (below w n ≤ 2400)

-- no place of an element has an amount
abbrev pub IsFlat : Element → Type 0
IsFlat e =
    (i : ℕ) → i < length (placed e) → (slice_index_or (placed e) i origin).amount ≡ pos 0

-- a pixel is so far from every edge of its card that no place reaches past one
abbrev pub IsInner : Size → ℕ → ℕ → Type 0
IsInner size x y = (3 ≤ x) × (x + 3 < size.width) × (3 ≤ y) × (y + 3 < size.height)

-- a tap falls on the card and lowers nothing
abbrev pub IsNear : Size → ℕ → ℕ → Tap → Type 0
IsNear size x y t =
    (on_card size.width (pos x +ℤ t.dx) ≡ true)
    × (on_card size.height (pos y +ℤ t.dy) ≡ true)
    × (t.amount ≡ pos 0)
