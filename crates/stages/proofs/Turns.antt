-- Taps read what the places of their stage read.
use Rattle.std.proofs.Common.{◌≡◌, ℕ, ◌+◌, ◌<◌, List, map, length, get_or, take, refl, ap, ◌∙◌, arith}
use Rattle.std.proofs.lemmas.List.{length-map, get_or-map}
use Rattle.planes.specs.declared.size.Size.{Size}
use Rattle.recipes.specs.declared.element.Element.{Element}
use Rattle.recipes.specs.declared.places.Place.{Place}
use Rattle.recipes.specs.declared.recipe.Operation.{Operation}
use Rattle.recipes.specs.declared.recipe.Operation.TheVariants.{Erosion, Dilation}
use Rattle.recipes.specs.declared.recipe.Stage.{Stage}
use Rattle.recipes.specs.Placed.{placed}
use Rattle.recipes.specs.Places.{origin}
use Rattle.tones.specs.Kind.{Kind}
use Rattle.stages.specs.declared.taps.Tap.{Tap}
use Rattle.stages.specs.Stages.{Picture, adds, window}
use Rattle.stages.proofs.Windows.{window_more}
use Rattle.stages.specs.Taps.{tap_of, tap_adds}

turned_adds : {T R : Type 0} (K : Kind T R) (size : Size) (f : Picture T) (x y : ℕ) (o : Operation) (e : Element) (p : Place) (c : ℕ) → tap_adds K size f x y (tap_of (record { operation = o; element = e }) p) c ≡ adds K size (record { operation = o; element = e }) f x y p c
turned_adds K size f x y Erosion e p c = refl
turned_adds K size f x y Dilation e p c = refl

-- the tap of a place adds what the place adds
pub tap_adds_same : {T R : Type 0} (K : Kind T R) (size : Size) (s : Stage) (f : Picture T) (x y : ℕ) (p : Place) (c : ℕ) → tap_adds K size f x y (tap_of s p) c ≡ adds K size s f x y p c
tap_adds_same K size s f x y p c = turned_adds K size f x y s.operation s.element p c

-- the i-th tap is that of the i-th place
pub tap_within : (s : Stage) (ts : List Tap) (i : ℕ) → ts ≡ map (tap_of s) (placed s.element) → i < length ts → i < length (placed s.element)
tap_within s ts i is h = omega (arith, h, ap length is, length-map (placed s.element) (tap_of s))

pub tap_item : (s : Stage) (ts : List Tap) (i : ℕ) (d : Tap) → ts ≡ map (tap_of s) (placed s.element) → i < length ts → get_or ts i d ≡ tap_of s (get_or (placed s.element) i origin)
tap_item s ts i d is h = ap (λ l. get_or l i d) is ∙ get_or-map (tap_of s) (placed s.element) i origin d (tap_within s ts i is h)

-- a loop's step: what the i-th tap adds makes the window of one place more
pub tap_step : {T R : Type 0} (K : Kind T R) (size : Size) (s : Stage) (f : Picture T) (x y : ℕ) (t : Tap) (i c before after : ℕ) → i < length (placed s.element) → t ≡ tap_of s (get_or (placed s.element) i origin) → before ≡ window K size s f x y (take i (placed s.element)) c → after ≡ before + tap_adds K size f x y t c → after ≡ window K size s f x y (take (i + 1) (placed s.element)) c
tap_step K size s f x y t i c before after h is old new =
    let p = get_or (placed s.element) i origin in
    let a : tap_adds K size f x y t c ≡ adds K size s f x y p c = ap (λ u. tap_adds K size f x y u c) is ∙ tap_adds_same K size s f x y p c in
    omega (arith, old, new, a, window_more K size s f x y (placed s.element) i c origin h)
