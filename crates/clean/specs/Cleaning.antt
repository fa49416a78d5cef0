-- A picture cleaned: eroded by the cross of order 2. Assumes nothing.
use Rattle.selectors.specs.Weights.{histogram_weight}
use Rattle.std.specs.Prelude.{◌≡◌, ℕ, ◌<◌, List, length, slice_index}
use Rattle.calls.specs.Calls.{State, Answer}
use Rattle.calls.specs.Calls.Answer.{Piece}
use Rattle.calls.specs.Calls.Call.{Row}
use Rattle.calls.specs.Outcomes.{Outcome}
use Rattle.cards.specs.Meanings.{InOrder, state_of}
use Rattle.cards.specs.declared.card.Card.{Card}
use Rattle.filters.specs.Restaging.{lines}
use Rattle.planes.specs.declared.size.Size.{Size}
use Rattle.recipes.specs.Placed.{placed, order_of}
use Rattle.recipes.specs.Recipes.{eroding}
use Rattle.recipes.specs.Shapes.{standard_places}
use Rattle.recipes.specs.declared.element.Element.{Element}
use Rattle.recipes.specs.declared.shapes.Shape.TheVariants.{Cross}
use Rattle.selectors.specs.declared.histogram.Histogram.{Histogram}
use Rattle.stages.specs.Planes.{picture}
use Rattle.stages.specs.Stages.{Picture, cleaned}
use Rattle.tones.specs.Greys.{greys}
use Rattle.tones.specs.declared.greys.Grey.{Grey}

abbrev pub size : ℕ → ℕ → Size
size width height = record { width = width; height = height }

-- a picture in greys
abbrev pub Shades : Type 0
Shades = Picture Grey

-- the element is the cross of order 2
pub record CrossOfOrder2 (e : Element) : Type 0 where
  pub places : placed e ≡ standard_places Cross
  pub order : order_of e ≡ 2

-- the picture of some samples
abbrev pub pictured : Size → List ℕ → Shades
pictured s samples = picture greys s 0 samples

-- that picture, eroded by an element
abbrev pub eroded_picture : Element → Size → List ℕ → Shades
eroded_picture e s samples x y = cleaned greys s (eroding e) (pictured s samples) x y

-- its tones, row by row
abbrev pub eroded : Element → Size → List ℕ → List ℕ
eroded e s samples = lines greys s (eroded_picture e s samples) s.height

-- some tones are those of the picture, eroded by the cross of order 2: there is such an element, and
-- with every one the tones are these
pub record Eroded (s : Size) (samples tones : List ℕ) : Type 0 where
  pub one : Element
  pub is_cross : CrossOfOrder2 one
  pub every : (e : Element) → CrossOfOrder2 e → tones ≡ eroded e s samples

-- a grey card with a histogram, and the memory that is lent to it
abbrev pub state : Card Grey Histogram → List ℕ → State ℕ
state card m = state_of histogram_weight card m

-- such a card is ready for work
abbrev pub Ready : Card Grey Histogram → Type 0
Ready card = InOrder greys (λ _. 512) (λ _. Unit {0}) card

-- a piece has the tones of a picture's row y
pub record RowOf (s : Size) (f : Shades) (y : ℕ) (p : List ℕ) : Type 0 where
  pub long : length p ≡ s.width
  pub tones : (i : ℕ) → i < s.width → greys.counted (slice_index p i) ≡ f i y

-- a card hands out every row of a picture
abbrev pub HandsOut : State ℕ → Size → Shades → Type 0
HandsOut at s f =
    (y : ℕ) → y < s.height → (a : Answer ℕ) (to : State ℕ) → Outcome greys at (Row 0 y s.width) a to
    → (p : List ℕ) × (a ≡ Piece p) × RowOf s f y p
