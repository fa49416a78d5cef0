-- What the worked examples are about: drafts of one step, and cards of greys. Assumes nothing.
use Rattle.std.specs.Prelude.{◌≡◌, ℕ, ◌*◌, List, [], ◌∷◌, ◌++◌, replicate, ℤ, pos, negsuc, Some, None}
use Rattle.areas.specs.Areas.{Area}
use Rattle.calls.specs.Calls.{Answer, Call, State}
use Rattle.calls.specs.Calls.Call.{Install, Patch, Work}
use Rattle.calls.specs.Opening.{fresh}
use Rattle.calls.specs.Outcomes.{after_by, answer_by, drafted}
use Rattle.planes.specs.Sizes.{area}
use Rattle.planes.specs.declared.size.Size.{Size}
use Rattle.recipes.specs.Drafts.{letter_of, steps_of, declared_by}
use Rattle.recipes.specs.Placed.{placed, order_of}
use Rattle.recipes.specs.Places.{origin}
use Rattle.recipes.specs.Shapes.{standard_places}
use Rattle.recipes.specs.declared.draft.Draft.{Draft}
use Rattle.recipes.specs.declared.draft.Letter.{Letter}
use Rattle.recipes.specs.declared.element.Element.{Element}
use Rattle.recipes.specs.declared.places.Part.TheVariants.{Core, Soft}
use Rattle.recipes.specs.declared.places.Place.{Place}
use Rattle.recipes.specs.declared.shapes.Shape.TheVariants.{Cross}
use Rattle.stages.specs.Planes.{picture}
use Rattle.stages.specs.Stages.{Picture, made}
use Rattle.tones.specs.Greys.{greys}
use Rattle.tones.specs.declared.greys.Grey.{Grey}

-- a draft declares one step and has it: that of a letter, given by its code, with an element of
-- these places and this order
pub record IsOneStep (c : ℕ) (ps : List Place) (k : ℕ) (d : Draft) : Type 0 where
  pub letter : Letter
  pub known : letter_of c ≡ Some letter
  pub element : Element
  pub places : placed element ≡ ps
  pub order : order_of element ≡ k
  pub steps : steps_of d ≡ record { letter = letter; element = element } ∷ []
  pub declared : declared_by d ≡ 1

-- a soft place
abbrev pub soft_with : ℤ → ℤ → ℤ → Place
soft_with dx dy amount = record { dx = dx; dy = dy; part = Soft; amount = amount }

-- one of amount 0
abbrev pub soft_at : ℤ → ℤ → Place
soft_at dx dy = soft_with dx dy (pos 0)

-- the places of the cross: above, left, the origin in the core, right and below
abbrev pub cross_places : List Place
cross_places =
    soft_at (pos 0) (negsuc 0)
    ∷ soft_at (negsuc 0) (pos 0)
    ∷ origin
    ∷ soft_at (pos 1) (pos 0)
    ∷ soft_at (pos 0) (pos 1)
    ∷ []

-- E, D, O and C with the cross of order 2
abbrev pub ECross : Draft → Type 0
ECross = IsOneStep 69 (standard_places Cross) 2

abbrev pub DCross : Draft → Type 0
DCross = IsOneStep 68 (standard_places Cross) 2

abbrev pub OCross : Draft → Type 0
OCross = IsOneStep 79 (standard_places Cross) 2

abbrev pub CCross : Draft → Type 0
CCross = IsOneStep 67 (standard_places Cross) 2

-- the origin alone, with an amount
abbrev pub origin_of : ℤ → List Place
origin_of amount = record { dx = pos 0; dy = pos 0; part = Core; amount = amount } ∷ []

-- D with the origin alone, of amount 5
abbrev pub DRaising : Draft → Type 0
DRaising = IsOneStep 68 (origin_of (pos 5)) 1

-- the origin and the place right of it, or left of it
abbrev pub right_places : List Place
right_places = origin ∷ soft_at (pos 1) (pos 0) ∷ []

abbrev pub left_places : List Place
left_places = origin ∷ soft_at (negsuc 0) (pos 0) ∷ []

-- the origin with amount 0, the place right of it with 25, and the place above it with -20
abbrev pub uneven_places : List Place
uneven_places =
    origin
    ∷ soft_with (pos 1) (pos 0) (pos 25)
    ∷ soft_with (pos 0) (negsuc 0) (negsuc 19)
    ∷ []

-- the origin and the place two columns right of it and one row above: it reaches farther across
-- than down
abbrev pub skew_places : List Place
skew_places = origin ∷ soft_at (pos 2) (negsuc 0) ∷ []

-- cards of 3 × 3 pixels, of 5 × 4 and of one
abbrev pub three : Size
three = record { width = 3; height = 3 }

abbrev pub wide : Size
wide = record { width = 5; height = 4 }

abbrev pub one : Size
one = record { width = 1; height = 1 }

-- the raw card 10 20 30 / 40 50 60 / 70 80 90
abbrev pub tens : List ℕ
tens = 10 ∷ 20 ∷ 30 ∷ 40 ∷ 50 ∷ 60 ∷ 70 ∷ 80 ∷ 90 ∷ []

abbrev pub card : Picture Grey
card = picture greys three 0 tens

-- what E with the cross makes of it, and then D of that
abbrev pub eroded : List ℕ
eroded = 10 ∷ 20 ∷ 30 ∷ 40 ∷ 40 ∷ 50 ∷ 70 ∷ 70 ∷ 80 ∷ []

abbrev pub opened : List ℕ
opened = 20 ∷ 30 ∷ 30 ∷ 40 ∷ 50 ∷ 50 ∷ 70 ∷ 70 ∷ 80 ∷ []

-- the raw card 11 12 13 14 15 / 21 22 23 24 25 / 31 32 33 34 35 / 41 42 43 44 45
abbrev pub wide_tones : List ℕ
wide_tones =
    (11 ∷ 12 ∷ 13 ∷ 14 ∷ 15 ∷ 21 ∷ 22 ∷ 23 ∷ 24 ∷ 25 ∷ [])
    ++ (31 ∷ 32 ∷ 33 ∷ 34 ∷ 35 ∷ 41 ∷ 42 ∷ 43 ∷ 44 ∷ 45 ∷ [])

-- what E with the skew places makes of it:
-- 11 12 13 14 15 / 13 14 15 24 25 / 23 24 25 34 35 / 33 34 35 44 45
abbrev pub wide_eroded : List ℕ
wide_eroded =
    (11 ∷ 12 ∷ 13 ∷ 14 ∷ 15 ∷ 13 ∷ 14 ∷ 15 ∷ 24 ∷ 25 ∷ [])
    ++ (23 ∷ 24 ∷ 25 ∷ 34 ∷ 35 ∷ 33 ∷ 34 ∷ 35 ∷ 44 ∷ 45 ∷ [])

-- the nine pixels of a picture, row by row
abbrev pub nine : Picture Grey → List ℕ
nine f =
    ((f 0 0).level ∷ (f 1 0).level ∷ (f 2 0).level ∷ [])
    ++ ((f 0 1).level ∷ (f 1 1).level ∷ (f 2 1).level ∷ [])
    ++ ((f 0 2).level ∷ (f 1 2).level ∷ (f 2 2).level ∷ [])

-- the recipe of a draft makes these nine tones of the card 10 20 30 / 40 50 60 / 70 80 90
abbrev pub Makes : List ℕ → Draft → Type 0
Makes tones d = nine (made greys three (drafted d) card) ≡ tones

-- there is a draft of one step of that letter and element, and for each one this holds
abbrev pub Each : ℕ → List Place → ℕ → (Draft → Type 0) → Type 0
Each c ps k P = ((d : Draft) × IsOneStep c ps k d) × ((d : Draft) → IsOneStep c ps k d → P d)

-- a card of a size, with room for so many stages, the recipe of a draft, its areas and its memory;
-- w is what its selector holds
abbrev pub card_with : (ℕ → ℕ) → Size → ℕ → Draft → List Area → List ℕ → State ℕ
card_with w size most d areas m = record {
  notes = Some (record { size = size; most = most; recipe = drafted d; areas = areas });
  weights = w;
  memory = m;
}

-- just opened for so many stages, with a raw card in plane 0 and zeros in the others
abbrev pub just_opened : (ℕ → ℕ) → Size → ℕ → List ℕ → State ℕ
just_opened w size most raw = record {
  notes = Some (fresh size.width size.height most);
  weights = w;
  memory = raw ++ replicate (most * area size) 0;
}

-- the card 10 20 30 / 40 50 60 / 70 80 90, just opened for one stage
abbrev pub fresh_card : (ℕ → ℕ) → State ℕ
fresh_card w = just_opened w three 1 tens

-- and for two
abbrev pub fresh_for_two : (ℕ → ℕ) → State ℕ
fresh_for_two w = just_opened w three 2 tens

-- the same card with one stage and its plane, nothing stale
abbrev pub one_stage : (ℕ → ℕ) → Draft → State ℕ
one_stage w d = card_with w three 1 d (None ∷ []) (tens ++ eroded)

-- with two stages and their planes, nothing stale
abbrev pub two_stages : (ℕ → ℕ) → Draft → State ℕ
two_stages w d = card_with w three 2 d (None ∷ None ∷ []) (tens ++ (eroded ++ opened))

-- the card of 5 × 4 pixels, with one stage and its plane, nothing stale
abbrev pub wide_card : (ℕ → ℕ) → Draft → State ℕ
wide_card w d = card_with w wide 1 d (None ∷ []) (wide_tones ++ wide_eroded)

-- one pixel, raw 20 and finished 25, nothing stale
abbrev pub one_pixel : (ℕ → ℕ) → Draft → State ℕ
one_pixel w d = card_with w one 1 d (None ∷ []) (20 ∷ 25 ∷ [])

-- what a call on a card answers, and what it leaves
abbrev pub answer : State ℕ → Call ℕ → Answer ℕ
answer st c = answer_by greys st.weights st.memory st.notes c

abbrev pub after : State ℕ → Call ℕ → State ℕ
after st c = after_by greys st.weights st.memory st.notes c

-- a card as an install and a work of 9 leave it
abbrev pub cleared : State ℕ → Draft → State ℕ
cleared st d = after (after st (Install d)) (Work 9)

-- the patch of the top left pixel with the tone t
abbrev pub corner : ℕ → Call ℕ
corner t = Patch 0 0 1 1 (t ∷ [])
