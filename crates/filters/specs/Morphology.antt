-- The laws of soft morphology that speak of a stage or of any list of stages, for every kind of
-- tones. Assumes nothing.
use Rattle.std.specs.Prelude.{◌≡◌, ℕ, suc, ◌-◌, ◌<◌, ◌≤◌, true, if◌then◌else◌, ◌↔◌, List, [], replicate, ℤ, ◌+ℤ◌, ◌-ℤ◌, nat_le}
use Rattle.std.specs.List.{ContainsAt as Has, flat_map}
use Rattle.planes.specs.declared.size.Size.{Size}
use Rattle.recipes.specs.declared.element.Element.{Element}
use Rattle.recipes.specs.declared.places.Place.{Place}
use Rattle.recipes.specs.declared.recipe.Operation.{Operation}
use Rattle.recipes.specs.declared.recipe.Operation.TheVariants.{Erosion, Dilation}
use Rattle.recipes.specs.declared.recipe.Stage.{Stage}
use Rattle.recipes.specs.Extents.{Within, across, down}
use Rattle.recipes.specs.Placed.{placed, order_of}
use Rattle.recipes.specs.Recipes.{places_within, amounts_within, eroding, dilating}
use Rattle.selectors.specs.Bag.{Ranked}
use Rattle.stages.specs.Stages.{Picture, weight, inside, read, bag, total, rank, cleaned, made}
use Rattle.tones.specs.declared.marks.Mark.{Mark}
use Rattle.tones.specs.declared.marks.Mark.TheVariants.{Yes}
use Rattle.tones.specs.Kind.{Kind, nearest}
use Rattle.tones.specs.Marks.{marks, mark, mark_code}
use Rattle.tones.specs.Whole.{WholeNumbers}
use Rattle.filters.specs.Orders.{Kth}

-- the pixel in column x and row y lies on the card
abbrev pub On : Size → ℕ → ℕ → Type 0
On size x y = (x < size.width) × (y < size.height)

-- an erosion's difference of a tone's number and the amount, a dilation's sum, as whole numbers
-- and not held
abbrev pub moved : Operation → ℤ → ℤ → ℤ
moved Erosion v a = v -ℤ a
moved Dilation v a = v +ℤ a

-- the window of the pixel (x, y) of a picture f on a card of that size
module _ {T R : Type 0} (K : Kind T R) (size : Size) (s : Stage) (f : Picture T) (x y : ℕ) where
  -- what a place gives to a list: its number k times if it is core, once if it is soft, and
  -- nothing outside the card
  abbrev pub gives : (Place → ℤ) → Place → List ℤ
  gives number p =
      if inside K size s f x y p then replicate (weight (order_of s.element) p) (number p) else []

  -- where tones have numbers
  module _ (value : T → ℤ) where
    -- the number of the tone that a place reads
    abbrev pub number_read : Place → ℤ
    number_read p = value (read K size s f x y p)

    -- the difference or sum at a place
    abbrev pub difference : Place → ℤ
    difference p = moved s.operation (number_read p) p.amount

    -- the numbers that the window reads
    abbrev pub numbers : List ℤ
    numbers = flat_map (gives number_read) (placed s.element)

    -- its differences or sums
    abbrev pub differences : List ℤ
    differences = flat_map (gives difference) (placed s.element)

-- a picture of marks: yes where the tone is at least t
abbrev pub cut : {T R : Type 0} → Kind T R → T → Picture T → Picture Mark
cut K t f x y = mark (nat_le (K.code t) (K.code (f x y)))

module _ {T R : Type 0} (K : Kind T R) where
  -- f is nowhere below g on the card
  abbrev pub NowhereBelow : Size → Picture T → Picture T → Type 0
  NowhereBelow size f g = (x y : ℕ) → On size x y → K.code (g x y) ≤ K.code (f x y)

  -- two pictures are the same within the element's greatest |dx| and |dy| of a pixel, on the card
  abbrev pub SameNear : Size → Element → ℕ → ℕ → Picture T → Picture T → Type 0
  SameNear size e x y f g =
      (u v : ℕ)
      → On size u v
      → Within (across e) x u
      → Within (down e) y v
      → f u v ≡ g u v

  -- the tone at a pixel on the card is the one that a selector selects at the stage's rank
  -- from the window's bag
  abbrev pub Picks : Type 0
  Picks =
      (size : Size) (s : Stage) (f : Picture T) (x y : ℕ)
      → On size x y
      → Ranked (bag K size s f x y) (rank K size s f x y) (K.code (cleaned K size s f x y))

  -- where tones are whole numbers and the amounts are within the span, an erosion is the k-th
  -- smallest of the differences f(p + y) − a(y), a dilation the k-th largest of the sums
  -- f(p − y) + a(y), held to the range; k = 1 is the minimum and the maximum
  abbrev pub SoftMorphology : Type 0
  SoftMorphology =
      (low high : ℤ) (value : T → ℤ)
      → WholeNumbers K low high value
      → (size : Size) (s : Stage) (f : Picture T) (x y : ℕ)
      → On size x y
      → places_within K.span (placed s.element) ≡ true
      → (z : ℤ)
      × Kth s.operation (order_of s.element) (differences K size s f x y value) z
      × (value (cleaned K size s f x y) ≡ nearest low high z)

  -- where no amount lowers or raises, the tone is one of those that the window reads
  abbrev pub KeepsVector : Type 0
  KeepsVector =
      K.span ≡ 0
      → (size : Size) (s : Stage) (f : Picture T) (x y : ℕ)
      → On size x y
      → (p : Place)
      × Has (placed s.element) p
      × (inside K size s f x y p ≡ true)
      × (cleaned K size s f x y ≡ read K size s f x y p)

  -- a pixel depends only on the pixels of the card within the element's greatest |dx| and |dy|
  abbrev pub Local : Type 0
  Local =
      (size : Size) (s : Stage) (f g : Picture T) (x y : ℕ)
      → SameNear size s.element x y f g
      → cleaned K size s f x y ≡ cleaned K size s g x y

  -- a picture nowhere below another is made nowhere below it, by any stages with any amounts
  abbrev pub KeepsOrder : Type 0
  KeepsOrder =
      (size : Size) (ss : List Stage) (f g : Picture T)
      → NowhereBelow size f g
      → NowhereBelow size (made K size ss f) (made K size ss g)

  -- with all amounts 0, the made picture cut at any tone is what the same stages make of the cut
  -- picture
  abbrev pub GoesWithCuts : Type 0
  GoesWithCuts =
      (size : Size) (ss : List Stage)
      → amounts_within 0 ss ≡ true
      → (t : T) (f : Picture T) (x y : ℕ)
      → On size x y
      → cut K t (made K size ss f) x y ≡ made marks size ss (cut K t f) x y

-- a pixel of a picture of marks
module _ (size : Size) (f : Picture Mark) (x y : ℕ) where
  -- what the yes of its window weigh, and what all of the window weighs
  abbrev pub yes_weight : Stage → ℕ
  yes_weight s = bag marks size s f x y (mark_code Yes)

  abbrev pub all_weight : Stage → ℕ
  all_weight s = total marks size s f x y

  -- a stage makes yes of it
  abbrev pub MakesYes : Stage → Type 0
  MakesYes s = cleaned marks size s f x y ≡ Yes

  -- it is eroded to yes exactly where the yes of its window weigh at least total − k + 1
  abbrev pub ErodesByCount : Element → Type 0
  ErodesByCount e =
      let s = eroding e in
      MakesYes s ↔ (suc (all_weight s - (order_of e)) ≤ yes_weight s)

  -- it is dilated to yes exactly where they weigh at least k
  abbrev pub DilatesByCount : Element → Type 0
  DilatesByCount e =
      let s = dilating e in
      MakesYes s ↔ (order_of e ≤ yes_weight s)

-- marks are eroded and dilated by counting
abbrev pub MarksCount : Type 0
MarksCount =
    (size : Size) (e : Element) (f : Picture Mark) (x y : ℕ)
    → On size x y
    → ErodesByCount size f x y e × DilatesByCount size f x y e
