-- What the steps of a recipe make, where tones are whole numbers: erosion, dilation, opening and
-- closing by name, at every pixel of the card, edges too. Assumes nothing.
use Rattle.std.specs.Prelude.{◌≡◌, ℕ, true, List, ◌∷◌, ℤ}
use Rattle.planes.specs.declared.size.Size.{Size}
use Rattle.recipes.specs.declared.draft.Letter.{Letter}
use Rattle.recipes.specs.declared.draft.Letter.TheVariants as letter
use Rattle.recipes.specs.declared.draft.Step.{Step}
use Rattle.recipes.specs.declared.element.Element.{Element}
use Rattle.recipes.specs.Placed.{placed, order_of}
use Rattle.recipes.specs.Recipes.{places_within, eroding, dilating, stages_by, stages_of}
use Rattle.stages.specs.Stages.{Picture, made}
use Rattle.tones.specs.Kind.{Kind, nearest}
use Rattle.tones.specs.Whole.{WholeNumbers}
use Rattle.filters.specs.Orders.{KthSmallest, KthLargest}
use Rattle.filters.specs.Morphology.{On, numbers, differences}

-- what the letters make, from what it is for a picture to be the erosion of another and to be its
-- dilation
module _ {P : Type 0} (IsEroded IsDilated : P → P → Type 0) where
  -- h is the opening of f: there is a picture that is the erosion of f, and h is its dilation
  abbrev pub IsOpened : P → P → Type 0
  IsOpened f h = (g : P) × IsEroded f g × IsDilated g h

  -- h is the closing of f: there is a picture that is the dilation of f, and h is its erosion
  abbrev pub IsClosed : P → P → Type 0
  IsClosed f h = (g : P) × IsDilated f g × IsEroded g h

  -- by its letter
  abbrev pub IsMade : Letter → P → P → Type 0
  IsMade letter.Erosion = IsEroded
  IsMade letter.Dilation = IsDilated
  IsMade letter.Opening = IsOpened
  IsMade letter.Closing = IsClosed

-- where tones have numbers, by an element e with the order index k
module _ {T R : Type 0} (K : Kind T R) (value : T → ℤ) (size : Size) (e : Element) where
  -- the erosion by a flat element: at every pixel the k-th smallest of the numbers f(p + y)
  abbrev pub IsFlatErosion : Picture T → Picture T → Type 0
  IsFlatErosion f g =
      (x y : ℕ) → On size x y
      → KthSmallest (order_of e) (numbers K size (eroding e) f x y value) (value (g x y))

  -- the dilation by a flat element: at every pixel the k-th largest of the numbers f(p − y)
  abbrev pub IsFlatDilation : Picture T → Picture T → Type 0
  IsFlatDilation f g =
      (x y : ℕ) → On size x y
      → KthLargest (order_of e) (numbers K size (dilating e) f x y value) (value (g x y))

  module _ (low high : ℤ) where
    -- the erosion: at every pixel the k-th smallest of the differences f(p + y) − a(y), held to
    -- low..high
    abbrev pub IsErosion : Picture T → Picture T → Type 0
    IsErosion f g =
        (x y : ℕ) → On size x y
        → (z : ℤ)
        × KthSmallest (order_of e) (differences K size (eroding e) f x y value) z
        × (value (g x y) ≡ nearest low high z)

    -- the dilation: at every pixel the k-th largest of the sums f(p − y) + a(y), held to low..high
    abbrev pub IsDilation : Picture T → Picture T → Type 0
    IsDilation f g =
        (x y : ℕ) → On size x y
        → (z : ℤ)
        × KthLargest (order_of e) (differences K size (dilating e) f x y value) z
        × (value (g x y) ≡ nearest low high z)

    -- what a step makes by its letter
    abbrev pub Makes : Letter → Picture T → Picture T → Type 0
    Makes = IsMade IsErosion IsDilation

  -- what a step with a flat element makes by its letter: nothing is subtracted, added or held
  abbrev pub MakesFlat : Letter → Picture T → Picture T → Type 0
  MakesFlat = IsMade IsFlatErosion IsFlatDilation

module _ {T R : Type 0} (K : Kind T R) where
  -- where tones are whole numbers and the amounts are within the span, a step makes of a picture
  -- what its letter says
  abbrev pub Steps : Type 0
  Steps =
      (low high : ℤ) (value : T → ℤ)
      → WholeNumbers K low high value
      → (size : Size) (l : Letter) (e : Element) (f : Picture T)
      → places_within K.span (placed e) ≡ true
      → Makes K value size e low high l f (made K size (stages_by l e) f)

  -- and with all amounts 0 it does so on the numbers themselves
  abbrev pub FlatSteps : Type 0
  FlatSteps =
      (low high : ℤ) (value : T → ℤ)
      → WholeNumbers K low high value
      → (size : Size) (l : Letter) (e : Element) (f : Picture T)
      → places_within 0 (placed e) ≡ true
      → MakesFlat K value size e l f (made K size (stages_by l e) f)

  -- a recipe makes what its steps make in turn, the first of the picture, each later one of what
  -- the one before made
  abbrev pub StepsInTurn : Type 0
  StepsInTurn =
      (size : Size) (s : Step) (ss : List Step) (f : Picture T)
      → made K size (stages_of (s ∷ ss)) f
      ≡ made K size (stages_of ss) (made K size (stages_by s.letter s.element) f)
