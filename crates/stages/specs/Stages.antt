-- What a stage makes of a picture, pixel by pixel, and what a recipe makes of it. Assumes nothing.
use Rattle.std.specs.Prelude.{ℕ, zero, suc, ◌+◌, ◌-◌, Bool, false, if◌then◌else◌, ◌&&◌, List, [], ◌∷◌, ℤ, pos, negsuc, ◌+ℤ◌, ◌-ℤ◌, neg_ℤ, ◌==◌, nat_le, nat_lt, unsigned_abs}
use Rattle.planes.specs.declared.size.Size.{Size}
use Rattle.recipes.specs.declared.places.Place.{Place}
use Rattle.recipes.specs.declared.recipe.Operation.{Operation}
use Rattle.recipes.specs.declared.recipe.Operation.TheVariants.{Erosion, Dilation}
use Rattle.recipes.specs.declared.recipe.Stage.{Stage}
use Rattle.recipes.specs.Placed.{placed, order_of}
use Rattle.recipes.specs.Places.{core}
use Rattle.selectors.specs.Bag.{below}
use Rattle.tones.specs.Kind.{Kind}

-- a picture: the tone in column x and row y
abbrev pub Picture : Type 0 → Type 0
Picture T = ℕ → ℕ → T

-- the column or row that a place reads: an erosion goes by the offset, a dilation against it
abbrev pub target : Operation → ℕ → ℤ → ℤ
target Erosion x d = pos x +ℤ d
target Dilation x d = pos x -ℤ d

-- a whole number is a column or row of a card that has n of them
abbrev pub on_card : ℕ → ℤ → Bool
on_card n (pos x) = nat_lt x n
on_card n (negsuc x) = false

-- an erosion lowers a tone by the amount, a dilation raises it
abbrev pub shifted : {T R : Type 0} → Kind T R → Operation → T → ℤ → T
shifted K Erosion t a = K.lowered t a
shifted K Dilation t a = K.lowered t (neg_ℤ a)

-- a core place weighs k, a soft one 1
abbrev pub weight : ℕ → Place → ℕ
weight k p = if core p then k else 1

-- an erosion takes rank k, a dilation rank total − k + 1
abbrev pub rank_of : Operation → ℕ → ℕ → ℕ
rank_of Erosion k total = k
rank_of Dilation k total = suc (total - k)

-- the least of the codes below n such that the codes up to it weigh at least r together
unfoldable pub ranked_code : (ℕ → ℕ) → ℕ → ℕ → ℕ
ranked_code w r zero = 0
ranked_code w r (suc n) = if nat_le r (below w n) then ranked_code w r n else n

-- the window of the pixel (x, y) of a picture f on a card of that size
module _ {T R : Type 0} (K : Kind T R) (size : Size) (s : Stage) (f : Picture T) (x y : ℕ) where
  -- a place falls on the card
  abbrev pub inside : Place → Bool
  inside p =
      on_card size.width (target s.operation x p.dx)
      && on_card size.height (target s.operation y p.dy)

  -- the tone that a place reads
  abbrev pub read : Place → T
  read p =
      f (unsigned_abs (target s.operation x p.dx)) (unsigned_abs (target s.operation y p.dy))

  -- the code of that tone, lowered or raised
  abbrev pub code_at : Place → ℕ
  code_at p = K.code (shifted K s.operation (read p) p.amount)

  -- what a place adds to the weight of the code c: nothing where it falls outside the card
  abbrev pub adds : Place → ℕ → ℕ
  adds p c = if inside p && code_at p == c then weight (order_of s.element) p else 0

  -- what some places add together
  unfoldable pub window : List Place → ℕ → ℕ
  window [] c = 0
  window (p ∷ ps) c = adds p c + window ps c

  -- the weights of the whole window
  abbrev pub bag : ℕ → ℕ
  bag = window (placed s.element)

  abbrev pub total : ℕ
  total = below bag K.count

  abbrev pub rank : ℕ
  rank = rank_of s.operation (order_of s.element) total

  -- what the stage makes of the pixel
  unfoldable pub cleaned : T
  cleaned = K.tone (ranked_code bag rank K.count)

-- what a list of stages makes of a picture, the first of the raw picture, each later one of what
-- the one before made
unfoldable pub made : {T R : Type 0} → Kind T R → Size → List Stage → Picture T → Picture T
made K size [] f = f
made K size (s ∷ ss) f = made K size ss (λ x y. cleaned K size s f x y)
