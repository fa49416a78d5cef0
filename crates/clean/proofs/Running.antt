-- The run of the program's calls: a load, an install, a work, and then a row after another.
use Rattle.std.proofs.Common.{◌≡◌, ℕ, ◌+◌, ◌-◌, ◌*◌, ◌<◌, ◌≤◌, min, true, false, cond, ◌&&◌, eqb, ltb, leb, List, [], ◌∷◌, length, get_or, is_some, is_ok, Some, None, Ok, Err, Option, Result, sym, refl, ap, ◌∙◌, subst, arith}
use Rattle.std.proofs.lemmas.Bool.{false≢true}
use Rattle.std.proofs.lemmas.Bool.Decides.{nat_tests}
use Rattle.pgm.specs.Grammar.{Pgm}
use Rattle.pgm.specs.Reading.Reading.{Shows as Shown}
use Rattle.pgm.proofs.Readings.{one_reading}
use Rattle.planes.specs.Sizes.{Limits}
use Rattle.recipes.specs.Drafts.{steps_of}
use Rattle.recipes.specs.Placed.{placed}
use Rattle.recipes.specs.Recipes.{eroding, stages_of, amounts_within, places_within}
use Rattle.recipes.specs.Shapes.{grid, standard_places}
use Rattle.recipes.specs.declared.draft.Draft.{Draft}
use Rattle.recipes.specs.declared.draft.Letter.TheVariants.{Erosion}
use Rattle.recipes.specs.declared.draft.Step.{Step}
use Rattle.recipes.specs.declared.element.Element.{Element}
use Rattle.recipes.specs.declared.shapes.Shape.TheVariants.{Cross}
use Rattle.areas.specs.Rects.{rect_on}
use Rattle.areas.specs.Areas.{stale_rows}
use Rattle.stages.specs.Planes.{blank}
use Rattle.stages.specs.Stages.{made}
use Rattle.filters.specs.Morphology.{On}
use Rattle.filters.proofs.Locality.{local}
use Rattle.tones.specs.Greys.{greys}
use Rattle.calls.specs.declared.refusals.Refusal.{Refusal}
use Rattle.calls.specs.declared.refusals.Refusal.TheVariants.{Size as BadSize, Memory, Range, Unopened, Outside, Count, TooFewSteps, TooManyStages, Amount, Stale, NoRoom}
use Rattle.calls.specs.Calls.{State, refusal, done, number}
use Rattle.calls.specs.Calls.Answer.{Done, Number}
use Rattle.calls.specs.Calls.Call.{Patch, Install, Work, Left}
use Rattle.calls.specs.Outcomes.{Outcome, done_unless, patch_refusal, install_refusal, rectangle}
use Rattle.calls.specs.History.{History, accepted, in_force, stale, raw, painted, holds}
use Rattle.calls.specs.History.Event.{Patched, Installed, Worked}
use Rattle.calls.specs.Runs.{Run, only_work, budgets}
use Rattle.calls.specs.Runs.Run.{none, more}
use Rattle.calls.specs.Promise.{Promise, opening}
use Rattle.calls.proofs.Pixels.{true_holds}
use Rattle.cards.specs.Loading.{Loads, LoadsBy, load_answer}
use Rattle.cards.specs.declared.faults.LoadFault.{LoadFault}
use Rattle.cards.specs.declared.faults.LoadFault.TheVariants.{File, Card}
use Rattle.clean.specs.Cleaning.{HandsOut, Shades, eroded_picture, pictured, size}

-- the limits of a picture
pub limits : (file : List ℕ) (w h m : ℕ) (samples : List ℕ) → Pgm file w h m samples → Limits (size w h)
limits file w h m samples p =
    let high = p.sound.fields.sound in
    record { wide = high.sound.within.0; not_too_wide = high.sound.within.1; high = high.within.0; not_too_high = high.within.1 }

-- a refusal is not an acceptance
pub refused : (e : Refusal) → accepted (refusal {R = ℕ} e) ≡ false
refused BadSize = refl
refused Memory = refl
refused Range = refl
refused Unopened = refl
refused Outside = refl
refused Count = refl
refused TooFewSteps = refl
refused TooManyStages = refl
refused Amount = refl
refused (Stale c) = refl
refused NoRoom = refl

load_ok : (r : Result (Unit {0}) LoadFault) → load_answer r ≡ Done → is_ok r ≡ true
load_ok (Ok u) e = refl
load_ok (Err (File f)) e = ap accepted e
load_ok (Err (Card f)) e = absurd (false≢true (sym (refused f) ∙ ap accepted e))

done_ok : (r : Result (Unit {0}) Refusal) → done {R = ℕ} r ≡ Done → is_ok r ≡ true
done_ok (Ok u) e = refl
done_ok (Err f) e = absurd (false≢true (sym (refused f) ∙ ap accepted e))

number_ok : (r : Result ℕ Refusal) (n : ℕ) → number {R = ℕ} r ≡ Number n → is_ok r ≡ true
number_ok (Ok u) n e = refl
number_ok (Err f) n e = absurd (false≢true (sym (refused f) ∙ ap accepted e))

-- the whole card is a rectangle on the card, and so is a piece of each of its rows
whole_on : (w h : ℕ) → 1 ≤ w → 1 ≤ h → rect_on (size w h) 0 0 w h ≡ Some (rectangle 0 0 w h)
whole_on w h p q =
    let test : ((ltb 0 w && leb (0 + w) w) && (ltb 0 h && leb (0 + h) h)) ≡ true = grind (arith, nat_tests) in
    ap (λ b. cond b (Some (rectangle 0 0 w h)) None) test

row_on : (w h y : ℕ) → 1 ≤ w → y < h → is_some (rect_on (size w h) 0 y w 1) ≡ true
row_on w h y p q =
    let test : ((ltb 0 w && leb (0 + w) w) && (ltb 0 1 && leb (y + 1) h)) ≡ true = grind (arith, nat_tests) in
    ap (λ b. is_some (cond b (Some (rectangle 0 y w 1)) None)) test

patch_fits : (w h n : ℕ) → 1 ≤ w → 1 ≤ h → n ≡ w * h → patch_refusal (rect_on (size w h) 0 0 w h) (w * h) n ≡ None
patch_fits w h n p q e =
    let test : eqb n (w * h) ≡ true = grind (arith, nat_tests) in
    ap (λ r. patch_refusal r (w * h) n) (whole_on w h p q) ∙ ap (λ b. cond b None (Some 18)) test

-- an erosion by the cross fits a card of one stage
amounts_fit : (e : Element) → placed e ≡ standard_places Cross → amounts_within 255 (eroding e ∷ []) ≡ true
unfolding standard_places grid
amounts_fit e p = ap (λ ps. places_within 255 ps && true) p

refusal_of : List Step → ℕ → Option ℕ
refusal_of ss n = cond (ltb (length ss) n) (Some 19) (cond (ltb 1 (length (stages_of ss))) (Some 20) (cond (amounts_within 255 (stages_of ss)) None (Some 21)))

install_fits : (d : Draft) (e : Element) → steps_of d ≡ record { letter = Erosion; element = e } ∷ [] → d.declared ≡ 1 → placed e ≡ standard_places Cross → install_refusal 255 1 d ≡ None
unfolding refusal_of
install_fits d e steps declared places =
    ap (λ ss. refusal_of ss d.declared) steps ∙ ap (λ n. refusal_of (record { letter = Erosion; element = e } ∷ []) n) declared
    ∙ ap (λ b. cond b None (Some 21)) (amounts_fit e places)

-- the load of a file's picture is the patch of its samples
load_patches : (file : List ℕ) (w h m : ℕ) (samples : List ℕ) (from to : State ℕ) (r : Result (Unit {0}) LoadFault) → Pgm file w h m samples → Loads file from 0 0 r to → Outcome greys from (Patch 0 0 w h samples) (load_answer r) to
load_patches file w h m samples from to r p l = subst (λ x. LoadsBy x from 0 0 r to) (one_reading file l.reading (Shown w h m samples) l.reads p) l.outcome

-- a patch over the whole card leaves nothing of the card before
painted_whole : (w h : ℕ) (samples : List ℕ) (first : Shades) (x y : ℕ) → On (size w h) x y → painted greys (rectangle 0 0 w h) samples first x y ≡ pictured (size w h) samples x y
painted_whole w h samples first x y on =
    let test : holds (rectangle 0 0 w h) x y ≡ true = true_holds (rectangle 0 0 w h) x y (record { from_left = omega arith; to_right = omega (arith, on.0); from_top = omega arith; to_bottom = omega (arith, on.1) }) in
    let a : y - 0 ≡ y = omega arith in
    let b : (0 + w) - 0 ≡ w = omega arith in
    let c : x - 0 ≡ x = omega arith in
    let plain : (y - 0) * ((0 + w) - 0) + (x - 0) ≡ y * w + x = cc in
    let place : (y - 0) * ((0 + w) - 0) + (x - 0) ≡ 0 + (y * w + x) = omega arith in
    ap (λ t. cond t (greys.counted (get_or samples ((y - 0) * ((0 + w) - 0) + (x - 0)) (blank greys))) (first x y)) test
    ∙ ap (λ i. greys.counted (get_or samples i (blank greys))) place

-- the history of the program's calls, before it works
abbrev history : ℕ → ℕ → List ℕ → Draft → History ℕ
history w h samples d = Installed d ∷ Patched (rectangle 0 0 w h) samples ∷ []

-- what the card has to show after them
drawn : (w h : ℕ) (samples : List ℕ) (d : Draft) (e : Element) → steps_of d ≡ record { letter = Erosion; element = e } ∷ [] → (first : Shades) (x y : ℕ) → made greys (size w h) (in_force (history w h samples d)) (raw greys first (history w h samples d)) (0 + x) y ≡ eroded_picture e (size w h) samples x y
unfolding in_force raw made
drawn w h samples d e steps first x y =
    let column : 0 + x ≡ x = omega arith in
    ap (λ u. made greys (size w h) (stages_of (steps_of d)) (painted greys (rectangle 0 0 w h) samples first) u y) column
    ∙ ap (λ ss. made greys (size w h) (stages_of ss) (painted greys (rectangle 0 0 w h) samples first) x y) steps
    ∙ local greys (size w h) (eroding e) (painted greys (rectangle 0 0 w h) samples first) (pictured (size w h) samples) x y (λ u v on _ _. painted_whole w h samples first u v on)

only : (n : ℕ) → only_work {R = ℕ} (Worked n ∷ []) ≡ true
unfolding only_work
only n = refl

budget : (n : ℕ) → budgets {R = ℕ} (Worked n ∷ []) ≡ n + 0
unfolding budgets
budget n = refl

module _ (file : List ℕ) (w h m : ℕ) (samples : List ℕ) (p : Pgm file w h m samples) (st : State ℕ) (promise : Promise greys (size w h) 1 st) where
  load_answered : (r : Result (Unit {0}) LoadFault) (at : State ℕ) → Loads file st 0 0 r at → load_answer r ≡ Done
  load_answered r at l =
      promise.answers_right [] st none (Patch 0 0 w h samples) (load_answer r) at (load_patches file w h m samples st at r p l)
      ∙ ap done_unless (patch_fits w h (length samples) (limits file w h m samples p).wide (limits file w h m samples p).high p.count)

  -- the load is not refused
  pub load_is_ok : (r : Result (Unit {0}) LoadFault) (at : State ℕ) → Loads file st 0 0 r at → is_ok r ≡ true
  load_is_ok r at l = load_ok r (load_answered r at l)

  loaded : (r : Result (Unit {0}) LoadFault) (at : State ℕ) → Loads file st 0 0 r at → Run greys st (Patched (rectangle 0 0 w h) samples ∷ []) at
  loaded r at l = more none (Patch 0 0 w h samples) Done at (subst (λ a. Outcome greys st (Patch 0 0 w h samples) a at) (load_answered r at l) (load_patches file w h m samples st at r p l))

  module _ (d : Draft) (e : Element) (steps : steps_of d ≡ record { letter = Erosion; element = e } ∷ []) (declared : d.declared ≡ 1) (cross : placed e ≡ standard_places Cross) where
    install_answered : (loading : Result (Unit {0}) LoadFault) (at : State ℕ) → Loads file st 0 0 loading at → (r : Result (Unit {0}) Refusal) (to : State ℕ) → Outcome greys at (Install d) (done r) to → done {R = ℕ} r ≡ Done
    install_answered loading at l r to o = promise.answers_right (Patched (rectangle 0 0 w h) samples ∷ []) at (loaded loading at l) (Install d) (done r) to o ∙ ap done_unless (install_fits d e steps declared cross)

    -- the install is not refused
    pub install_is_ok : (loading : Result (Unit {0}) LoadFault) (at : State ℕ) → Loads file st 0 0 loading at → (r : Result (Unit {0}) Refusal) (to : State ℕ) → Outcome greys at (Install d) (done r) to → is_ok r ≡ true
    install_is_ok loading at l r to o = done_ok r (install_answered loading at l r to o)

    installed : (loading : Result (Unit {0}) LoadFault) (at : State ℕ) → Loads file st 0 0 loading at → (r : Result (Unit {0}) Refusal) (to : State ℕ) → Outcome greys at (Install d) (done r) to → Run greys st (history w h samples d) to
    installed loading at l r to o = more (loaded loading at l) (Install d) Done to (subst (λ a. Outcome greys at (Install d) a to) (install_answered loading at l r to o) o)

    -- the work is not refused
    pub work_is_ok : (loading : Result (Unit {0}) LoadFault) (at : State ℕ) → Loads file st 0 0 loading at → (r : Result (Unit {0}) Refusal) (to : State ℕ) → Outcome greys at (Install d) (done r) to → (left : ℕ) (working : Result ℕ Refusal) (end : State ℕ) → Outcome greys to (Work left) (number working) end → is_ok working ≡ true
    work_is_ok loading at l r to o left working end works = number_ok working _ (promise.answers_right (history w h samples d) to (installed loading at l r to o) (Work left) (number working) end works)

    -- after a work of as many rows as are left every row is handed out, and it is right
    handed : (at : State ℕ) → Run greys st (history w h samples d) at → (left : ℕ) → Outcome greys at Left (Number left) at → (r : Result ℕ Refusal) (end : State ℕ) → Outcome greys at (Work left) (number r) end → HandsOut end (size w h) (eroded_picture e (size w h) samples)
    handed at run left lefts r end works y inside a to out =
        let H = history w h samples d in
        let count : left ≡ stale_rows (stale (size w h) H) = cc (promise.answers_right H at run Left (Number left) at lefts) in
        let answer : number r ≡ Number (min left (stale_rows (stale (size w h) H))) = promise.answers_right H at run (Work left) (number r) end works in
        let worked : Run greys at (Worked left ∷ []) end = more none (Work left) (Number (min left (stale_rows (stale (size w h) H)))) end (subst (λ a. Outcome greys at (Work left) a end) answer works) in
        let reach : stale_rows (stale (size w h) H) ≤ budgets {R = ℕ} (Worked left ∷ []) = omega (arith, budget left) in
        let clean = promise.comes_clean H (Worked left ∷ []) end (record { mid = at; before = run; since = worked; only = only left; enough = reach }) 0 y w (row_on w h y (limits file w h m samples p).wide inside) a to out in
        (clean.0, clean.1, record { long = clean.2.long; tones = λ i k. clean.2.tones i k ∙ drawn w h samples d e steps (opening greys (size w h) st) i y })

    pub hands_out : (loading : Result (Unit {0}) LoadFault) (at : State ℕ) → Loads file st 0 0 loading at → (r : Result (Unit {0}) Refusal) (to : State ℕ) → Outcome greys at (Install d) (done r) to → (left : ℕ) → Outcome greys to Left (Number left) to → (working : Result ℕ Refusal) (end : State ℕ) → Outcome greys to (Work left) (number working) end → HandsOut end (size w h) (eroded_picture e (size w h) samples)
    hands_out loading at l r to o left lefts working end works = handed to (installed loading at l r to o) left lefts working end works
