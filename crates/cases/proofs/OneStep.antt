-- Drafts of one step: each is its step and its element's places, with whatever stands behind them in the arrays.
use Rattle.std.proofs.Common.{◌≡◌, ℕ, ◌≤◌, true, List, [], ◌∷◌, ◌++◌, length, take, drop, replicate, ℤ, pos, nat_le, unsigned_abs, Some, sym, refl, ap, ◌∙◌, subst, arith, lit≤, take-append-drop}
use Rattle.std.proofs.lemmas.List.{length-take-le}
use Rattle.recipes.specs.Drafts.{letter_of, steps_of}
use Rattle.recipes.specs.Lawful.{apart, lawful}
use Rattle.recipes.specs.Placed.{placed}
use Rattle.recipes.specs.Places.{origin}
use Rattle.recipes.specs.Shapes.{grid, standard_places}
use Rattle.recipes.specs.declared.draft.Draft.{Draft}
use Rattle.recipes.specs.declared.draft.Letter.{Letter}
use Rattle.recipes.specs.declared.draft.Letter.TheVariants as letter
use Rattle.recipes.specs.declared.draft.Step.{Step}
use Rattle.recipes.specs.declared.element.Element.{Element}
use Rattle.recipes.specs.declared.places.Place.{Place}
use Rattle.recipes.specs.declared.shapes.Shape.TheVariants.{Cross}
use Rattle.cases.specs.Examples.{DraftsThere}
use Rattle.cases.specs.Samples.{Each, IsOneStep, DRaising, cross_places, origin_of}

-- an element with its places written out
pub record ElementParts (ps : List Place) (k : ℕ) : Type 0 where
  pub rest : List Place
  pub long : length (ps ++ rest) ≡ 49
  pub within : length ps ≤ 49
  pub sound : lawful (take (length ps) (ps ++ rest)) k ≡ true

abbrev pub element_of : (ps : List Place) (k : ℕ) → ElementParts ps k → Element
element_of ps k a = record { places = ps ++ a.rest; count = length ps; order = k; long = a.long; within = a.within; sound = a.sound }

-- what holds of all those holds of every element with those places
every_element : (ps : List Place) (k : ℕ) (P : Element → Type 0) → ((a : ElementParts ps k) → P (element_of ps k a)) → (e : Element) → placed e ≡ ps → e.order ≡ k → P e
every_element ps k P h e p q =
    let rest : List Place = drop e.count e.places in
    let whole : List Place = ps ++ rest in
    let n : length ps ≡ e.count = ap length (sym p) ∙ length-take-le e.count e.places (omega (arith, e.long, e.within)) in
    let m : whole ≡ e.places = ap (λ xs. xs ++ rest) (sym p) ∙ take-append-drop e.count e.places in
    let F : List Place → ℕ → ℕ → Type 0 = λ xs c o. (l : length xs ≡ 49) (i : c ≤ 49) (s : lawful (take c xs) o ≡ true) → P (record { places = xs; count = c; order = o; long = l; within = i; sound = s }) in
    let z : F whole (length ps) k = λ l i s. h (record { rest = rest; long = l; within = i; sound = s }) in
    subst (λ xs. F xs e.count e.order) m (subst (λ c. F whole c e.order) n (subst (λ o. F whole (length ps) o) (sym q) z)) e.long e.within e.sound

-- a step with such an element
abbrev pub step_of : (l : Letter) (ps : List Place) (k : ℕ) → ElementParts ps k → Step
step_of l ps k a = record { letter = l; element = element_of ps k a }

-- a draft with its step written out
pub record DraftParts (s : Step) : Type 0 where
  pub rest : List Step
  pub long : length (s ∷ rest) ≡ 4
  pub few : 1 ≤ 4
  pub within : 1 ≤ 1

abbrev pub draft_of : (s : Step) → DraftParts s → Draft
draft_of s a = record { steps = s ∷ a.rest; count = 1; declared = 1; long = a.long; few = a.few; within = a.within }

every_draft : (s : Step) (P : Draft → Type 0) → ((a : DraftParts s) → P (draft_of s a)) → (d : Draft) → steps_of d ≡ s ∷ [] → d.declared ≡ 1 → P d
every_draft s P h d p q =
    let rest : List Step = drop d.count d.steps in
    let whole : List Step = s ∷ rest in
    let n : 1 ≡ d.count = ap length (sym p) ∙ length-take-le d.count d.steps (omega (arith, d.long, d.few)) in
    let m : whole ≡ d.steps = ap (λ xs. xs ++ rest) (sym p) ∙ take-append-drop d.count d.steps in
    let F : List Step → ℕ → ℕ → Type 0 = λ xs c o. (l : length xs ≡ 4) (i : c ≤ 4) (w : c ≤ o) → P (record { steps = xs; count = c; declared = o; long = l; few = i; within = w }) in
    let z : F whole 1 1 = λ l i w. h (record { rest = rest; long = l; few = i; within = w }) in
    subst (λ xs. F xs d.count d.declared) m (subst (λ c. F whole c d.declared) n (subst (λ o. F whole 1 o) (sym q) z)) d.long d.few d.within

-- what holds of all those holds of every draft of one step
pub every_one_step :
    (c : ℕ) (l : Letter) (ps : List Place) (k : ℕ) (P : Draft → Type 0) → letter_of c ≡ Some l →
    ((a : ElementParts ps k) (b : DraftParts (step_of l ps k a)) → P (draft_of (step_of l ps k a) b)) →
    (d : Draft) → IsOneStep c ps k d → P d
every_one_step c l ps k P e h d o =
    let same : l ≡ o.letter = (cc (sym e ∙ o.known)) in
    let z : (x : Element) → placed x ≡ ps → x.order ≡ k → (b : DraftParts (record { letter = l; element = x })) → P (draft_of (record { letter = l; element = x }) b) =
    every_element ps k (λ x. (b : DraftParts (record { letter = l; element = x })) → P (draft_of (record { letter = l; element = x }) b)) h in
    every_draft (record { letter = l; element = o.element }) P (z o.element o.places o.order) d (o.steps ∙ ap (λ x. record { letter = x; element = o.element } ∷ []) (sym same)) o.declared

pub cross_is : standard_places Cross ≡ cross_places
unfolding standard_places grid
cross_is = refl

-- the same with the cross of order 2
pub every_cross :
    (c : ℕ) (l : Letter) (P : Draft → Type 0) → letter_of c ≡ Some l →
    ((a : ElementParts cross_places 2) (b : DraftParts (step_of l cross_places 2 a)) → P (draft_of (step_of l cross_places 2 a) b)) →
    (d : Draft) → IsOneStep c (standard_places Cross) 2 d → P d
every_cross c l P e h d o = every_one_step c l cross_places 2 P e h d (subst (λ ps. IsOneStep c ps 2 d) cross_is o)

-- a draft of a step
one_step_there : (c : ℕ) (l : Letter) (ps : List Place) (k : ℕ) → letter_of c ≡ Some l → (a : ElementParts ps k) → placed (element_of ps k a) ≡ ps → (d : Draft) × IsOneStep c ps k d
one_step_there c l ps k e a p =
    let s : Step = step_of l ps k a in (
      draft_of s (record { rest = s ∷ s ∷ s ∷ []; long = refl; few = lit≤ tt; within = lit≤ tt }),
      record { letter = l; known = e; element = element_of ps k a; places = p; order = refl; steps = refl; declared = refl },
    )

-- the origin alone, with a lawful amount
pub origin_parts :
    (amount : ℤ) → nat_le (unsigned_abs amount) 1024 ≡ true → ElementParts (origin_of amount) 1
unfolding lawful apart
origin_parts amount h =
    record { rest = replicate 48 origin; long = refl; within = lit≤ tt; sound = rw h }

-- there is such a draft, and what holds of all those written out holds of each
pub each :
    {ps : List Place} {k : ℕ} (c : ℕ) (l : Letter) → letter_of c ≡ Some l →
    (a : ElementParts ps k) → placed (element_of ps k a) ≡ ps → (P : Draft → Type 0) →
    ((x : ElementParts ps k) (b : DraftParts (step_of l ps k x)) → P (draft_of (step_of l ps k x) b)) →
    Each c ps k P
each {ps} {k} c l e a p P h = (one_step_there c l ps k e a p, every_one_step c l ps k P e h)

cross_there : (c : ℕ) (l : Letter) → letter_of c ≡ Some l → (d : Draft) × IsOneStep c (standard_places Cross) 2 d
unfolding lawful apart
cross_there c l e =
    subst (λ ps. (d : Draft) × IsOneStep c ps 2 d) (sym cross_is)
    (one_step_there c l cross_places 2 e (record { rest = replicate 44 origin; long = refl; within = lit≤ tt; sound = refl }) refl)

raising_there : (d : Draft) × DRaising d
raising_there = one_step_there 68 letter.Dilation (origin_of (pos 5)) 1 refl (origin_parts (pos 5) refl) refl

pub drafts_there : DraftsThere
drafts_there =
    record {
      erosion = cross_there 69 letter.Erosion refl;
      dilation = cross_there 68 letter.Dilation refl;
      opening = cross_there 79 letter.Opening refl;
      closing = cross_there 67 letter.Closing refl;
      raising = raising_there;
    }
