-- What a file that a card writes shows, and that it is written once more.
use Rattle.std.proofs.Common.{◌≡◌, ℕ, zero, suc, ◌+◌, ◌*◌, ◌<◌, ◌≤◌, Bool, true, false, cond, eqb, leb, List, [], ◌∷◌, ◌++◌, map, length, get_or, take, drop, Some, None, Ok, Err, Option, sym, refl, ap, ap₂, ◌∙◌, subst, le_refl, mul-le-mul_right, suc-mul, mul_comm, arith}
use Rattle.std.proofs.Math.Seq.{take-add}
use Rattle.std.proofs.lemmas.Bool.{cond-true, eq-eqb, eqb-true, le-leb}
use Rattle.std.proofs.lemmas.Int.{ints, clamps}
use Rattle.std.proofs.lemmas.List.{append_assoc, get_or-drop, get_or-take, length-append, length-drop, length-map, length-take-le, map-append, take_all, take_at}
use Rattle.planes.specs.declared.size.Size.{Size}
use Rattle.planes.specs.Sizes.{Limits, area, cell, start}
use Rattle.areas.specs.Areas.{Area, stale_rows}
use Rattle.stages.specs.Planes.{overwritten}
use Rattle.filters.specs.Morphology.{On}
use Rattle.tones.specs.Greys.{greys}
use Rattle.tones.specs.GreyLaws.{grey_laws}
use Rattle.pgm.specs.Grammar.{Within}
use Rattle.pgm.specs.Raw.{IsPicture, over, raw_file}
use Rattle.pgm.specs.Reading.{Reading, Reads}
use Rattle.pgm.specs.Reading.Reading.{Shows, Faulty}
use Rattle.pgm.proofs.Writing.{read_written, reads_back}
use Rattle.recipes.specs.declared.recipe.Stage.{Stage}
use Rattle.stages.specs.Stages.{Picture}
use Rattle.tones.specs.declared.greys.Grey.{Grey}
use Rattle.calls.specs.Calls.{Notes, Open, State, Answer, room}
use Rattle.calls.specs.Calls.Answer.{Done, Number, Refused, Met}
use Rattle.calls.specs.Calls.Call.{Patch}
use Rattle.calls.specs.Finished.{answer_given, after_given}
use Rattle.calls.specs.History.{History, in_force, stale, raw}
use Rattle.calls.specs.History.Event.{Patched}
use Rattle.calls.specs.Outcomes.{Outcome, as_written, done_unless, kept_if, laid, patched, patch_refused, rectangle}
use Rattle.calls.specs.Promise.{opening, raw_card}
use Rattle.calls.specs.Runs.Run.{more}
use Rattle.calls.proofs.Keeping.{Kept, answer_is, kept_run, memory_is, notes_after, opened}
use Rattle.calls.proofs.Rightness.{Right, finished_clean}
use Rattle.calls.proofs.Written.{lower_before, plane_within}
use Rattle.cards.specs.Files.{ReadBack, MadeFile, OnceMore, Played, RightFiles}
use Rattle.cards.specs.Loading.{Loads, LoadsBy}
use Rattle.cards.specs.Writing.{Writes, finished_greys, file_of, file_given, write_answer, write_after}

-- the file that an accepted write gives
pub record Accepted (notes : Option Notes) (m : List ℕ) (lent n : ℕ) : Type 0 where
  pub card : Notes
  pub opened : notes ≡ Some card
  pub long : length m ≡ room card
  pub clean : stale_rows card.areas ≡ 0
  pub count : n ≡ length (file_of card m)
  pub gives : file_given notes m lent ≡ Ok (file_of card m)

-- the notes of an open card are one
same_notes : {a b : Notes} → ◌≡◌ {A = Option Notes} (Some a) (Some b) → a ≡ b
same_notes e = cc

-- no refusal is a number
not_met : {c n : ℕ} → ◌≡◌ {A = Answer ℕ} (Met c) (Number n) → ⊥
not_met e = cc

not_refused : {c n : ℕ} → ◌≡◌ {A = Answer ℕ} (Refused c) (Number n) → ⊥
not_refused e = cc

-- what a write gives where one test after another holds
gives_by : (k : Notes) (m : List ℕ) (lent n : ℕ) (a b c : Bool) → a ≡ eqb (length m) (room k) → b ≡ eqb (stale_rows k.areas) 0 → c ≡ leb (length (file_of k m)) lent
    → ◌≡◌ {A = Answer ℕ} (answer_given (λ file. Number (length file)) (cond a (cond b (cond c (Ok (file_of k m)) (Err (Refused 24))) (Err (Met 0))) (Err (Refused 14)))) (Number n)
    → (a ≡ true) × (b ≡ true) × (c ≡ true) × (n ≡ length (file_of k m))
gives_by k m lent n true true true p q r e = (refl, refl, refl, cc)
gives_by k m lent n true true false p q r e = absurd (not_refused e)
gives_by k m lent n true false c p q r e = absurd (not_met e)
gives_by k m lent n false b c p q r e = absurd (not_refused e)

pub accepted_by : (notes : Option Notes) (m : List ℕ) (lent n : ℕ) → write_answer notes m lent ≡ Number n → Accepted notes m lent n
accepted_by None m lent n e = absurd (not_refused e)
accepted_by (Some k) m lent n e =
    let t = gives_by k m lent n _ _ _ refl refl refl e in
    record {
      card = k;
      opened = refl;
      long = eqb-true (length m) (room k) t.0;
      clean = eqb-true (stale_rows k.areas) 0 t.1;
      count = t.3;
      gives = cond-true _ _ _ t.0 ∙ (cond-true _ _ _ t.1 ∙ cond-true _ _ _ t.2);
    }

-- the lent bytes after it have the file in front
pub given_after : (notes : Option Notes) (m before file : List ℕ) → file_given notes m (length before) ≡ Ok file → write_after notes m before ≡ over file before
given_after notes m before file e = ap (after_given (λ f. over f before) before) e

-- and begin with it
pub first_of : (file before : List ℕ) (n : ℕ) → n ≡ length file → take n (over file before) ≡ file
first_of file before n e = take_at file (drop (length file) before) n (sym e)

-- a write gives the file of a card on which nothing is stale, where there is room for it
pub gives : (k : Notes) (m : List ℕ) (lent : ℕ) → length m ≡ room k → stale_rows k.areas ≡ 0 → length (file_of k m) ≤ lent → file_given (Some k) m lent ≡ Ok (file_of k m)
gives k m lent long clean fits =
    cond-true _ _ _ (eq-eqb (length m) (room k) long)
    ∙ (cond-true _ _ _ (eq-eqb (stale_rows k.areas) 0 clean)
    ∙ cond-true _ _ _ (le-leb (length (file_of k m)) lent fits))

-- a byte counts as the grey whose row it is
byte_written : (r : ℕ) → r ≤ 255 → greys.row (greys.counted r) ≡ r
byte_written r h = omega (arith, ints, clamps)

bytes_written : (rs : List ℕ) → ((i : ℕ) → i < length rs → get_or rs i 0 ≤ 255) → map (λ r. greys.row (greys.counted r)) rs ≡ rs
bytes_written [] h = refl
bytes_written (r ∷ rs) h = ap₂ (λ x xs. x ∷ xs) (byte_written r (h 0 (omega arith))) (bytes_written rs (λ i l. h (suc i) (omega arith)))

-- the rows of a patch over the whole card stand one after another in plane 0
module _ (size : Size) (tones m : List ℕ) (count : length tones ≡ area size) where
  pub laid_whole : (n : ℕ) → n ≤ size.height → take (n * size.width) (laid greys size 0 0 size.width tones m n) ≡ as_written greys (take (n * size.width) tones)
  unfolding laid
  laid_whole zero h = let none : 0 * size.width ≡ 0 = omega arith in ap (λ k. take k m) none ∙ sym (ap (λ k. as_written greys (take k tones)) none)
  laid_whole (suc n) h =
      let w = size.width in
      let i = n * w in
      let old = laid greys size 0 0 w tones m n in
      let piece = take w (drop i tones) in
      let new = as_written greys piece in
      let inside : i + w ≤ length tones = omega (arith, count, mul-le-mul_right w h, suc-mul n w, mul_comm w size.height) in
      let before = laid_whole n (omega arith) in
      let at : cell size 0 (0 + n) ≡ i = omega arith in
      let long : length (take i old) ≡ i = ap length before ∙ (length-map (take i tones) _ ∙ length-take-le i tones (omega arith)) in
      let wide : length new ≡ w = length-map piece _ ∙ length-take-le w (drop i tones) (omega (arith, length-drop i tones)) in
      let both : length (take i old ++ new) ≡ suc n * w = omega (arith, length-append (take i old) new, long, wide, suc-mul n w) in
      let cut : suc n * w ≡ i + w = omega (arith, suc-mul n w) in
      ap (λ k. take (suc n * w) (overwritten old k new)) at
      ∙ (ap (take (suc n * w)) (sym (append_assoc (take i old) new (drop (i + length new) old)))
      ∙ (take_at (take i old ++ new) (drop (i + length new) old) (suc n * w) both
      ∙ (ap (λ f. f ++ new) before
      ∙ (sym (map-append (λ r. greys.row (greys.counted r)) (take i tones) piece)
      ∙ ap (as_written greys) (sym (take-add i w tones) ∙ ap (λ k. take k tones) (sym cut))))))

  -- so plane 0 has the tones, where they are greys
  pub whole_patch : ((i : ℕ) → i < length tones → get_or tones i 0 ≤ 255) → take (area size) (laid greys size 0 0 size.width tones m size.height) ≡ tones
  whole_patch small =
      let turn : area size ≡ size.height * size.width = mul_comm size.width size.height in
      let all : take (size.height * size.width) tones ≡ tones = take_all (size.height * size.width) tones (omega (arith, count, turn)) in
      ap (λ k. take k (laid greys size 0 0 size.width tones m size.height)) turn
      ∙ (laid_whole size.height (le_refl size.height)
      ∙ (ap (as_written greys) all ∙ bytes_written tones small))

-- a pixel on the card stands within a plane
in_plane : (size : Size) (x y : ℕ) → On size x y → cell size x y < area size
in_plane size x y on = let e = lower_before size.width on.1 in omega (arith, e, on.0, mul_comm size.width size.height)

-- after any calls, the file of an accepted write shows what the recipe in force makes of the raw card
pub right_files : RightFiles
right_files size h at p before after n w =
    let got = accepted_by at.notes at.memory (length before) n (sym w.answer) in
    let kept = kept_run greys grey_laws size p.most p.start p.begun h at p.run in
    let k = notes_after size p.most h in
    let same : got.card ≡ k = same_notes (sym got.opened ∙ kept.notes) in
    let clean : stale_rows (stale size h) ≡ 0 = ap (λ (c : Notes). stale_rows c.areas) (sym same) ∙ got.clean in
    let right = finished_clean greys size (raw_card greys size p.start h) at.memory (in_force h) (stale size h) kept.sound.raw kept.sound.right kept.sound.fit clean in
    let part : start size (length (in_force h)) + area size ≤ length at.memory = plane_within size (length (in_force h)) p.most (length at.memory) kept.sound.few kept.sound.long in
    let tones = finished_greys k at.memory in
    let long : length tones ≡ area size = length-take-le (area size) (drop (start size (length (in_force h))) at.memory) (omega (arith, part, length-drop (start size (length (in_force h))) at.memory)) in
    let file : take n after ≡ file_of k at.memory = ap (take n) (w.bytes ∙ given_after at.notes at.memory before _ got.gives) ∙ (first_of _ before n got.count ∙ ap (λ c. file_of c at.memory) same) in
    record {
      tones = tones;
      whole = file;
      count = long;
      right = λ x y on.
          let inside : cell size x y < area size = in_plane size x y on in
          let at-0 : 0 + cell size x y ≡ cell size x y = omega arith in
          ap (λ i. greys.counted (get_or tones i 0)) at-0
          ∙ (ap greys.counted (get_or-take (area size) (drop (start size (length (in_force h))) at.memory) (cell size x y) 0 inside ∙ get_or-drop (start size (length (in_force h))) at.memory (cell size x y) 0)
          ∙ right x y on);
    }

-- a load of a file that a card of the size has written is the patch of its greys
pub record Lays (w h : ℕ) (tones : List ℕ) (at to : State ℕ) : Type 0 where
  pub small : (i : ℕ) → i < length tones → get_or tones i 0 ≤ 255
  pub count : length tones ≡ w * h
  pub patch : Outcome greys at (Patch 0 0 w h tones) Done to

module _ (w h : ℕ) (tones : List ℕ) (wide : Within 1024 w) (high : Within 256 h) (at to : State ℕ) where
  lays_by : (r : Reading) → Reads (raw_file w h tones) r → LoadsBy r at 0 0 (Ok tt) to → Lays w h tones at to
  lays_by (Shows v k m samples) p out =
      let e = read_written w h tones wide high v k m samples p in
      let top = p.sound.fields.within.1 in
      record {
        small = subst (λ ts. (i : ℕ) → i < length ts → get_or ts i 0 ≤ 255) e.2 (λ i l. omega (arith, top, p.tones i l));
        count = rw (e.0, e.1, e.2) at p.count;
        patch = rw (e.0, e.1, e.2) at out;
      }
  lays_by (Faulty f) p out = cc

  pub lays : Loads (raw_file w h tones) at 0 0 (Ok tt) to → Lays w h tones at to
  lays l = lays_by l.reading l.reads l.outcome

-- without stages there are no areas
no_areas : (size : Size) (first : Picture Grey) (m : List ℕ) (ss : List Stage) (bs : List Area) → ss ≡ [] → Right greys size 0 first m ss bs → stale_rows bs ≡ 0
unfolding Right stale_rows
no_areas size first m [] [] e r = refl
no_areas size first m [] (b ∷ bs) e r = absurd r
no_areas size first m (s ∷ ss) bs e r = let z : ◌≡◌ {A = ℕ} 0 1 = cc in absurd (omega arith)

-- a patch that is done lays its tones over plane 0
patched_by : (refusal : Option ℕ) (before after : Open ℕ) → Done ≡ done_unless {R = ℕ} refusal → kept_if refusal before after ≡ after
patched_by None before after e = refl
patched_by (Some n) before after e = cc

-- a file of a card, loaded and written once more
module _ (size : Size) (tones : List ℕ) (h : History ℕ) (at : State ℕ) (p : Played size h at) (empty : in_force h ≡ []) (to : State ℕ) (l : Lays size.width size.height tones at to) where
  abbrev later : History ℕ
  later = Patched (rectangle 0 0 size.width size.height) tones ∷ h

  before_it : Kept greys size p.most (opening greys size p.start) h at
  before_it = kept_run greys grey_laws size p.most p.start p.begun h at p.run

  after_it : Kept greys size p.most (opening greys size p.start) later to
  after_it = kept_run greys grey_laws size p.most p.start p.begun later to (more p.run (Patch 0 0 size.width size.height tones) Done to l.patch)

  abbrev card : Notes
  card = notes_after size p.most later

  still_empty : in_force later ≡ []
  unfolding in_force
  still_empty = empty

  nothing_stale : stale_rows (stale size later) ≡ 0
  nothing_stale = no_areas size (raw greys (opening greys size p.start) later) to.memory (in_force later) (stale size later) still_empty after_it.sound.right

  laid_over : to.memory ≡ laid greys size 0 0 size.width tones at.memory size.height
  laid_over =
      let c = Patch 0 0 size.width size.height tones in
      let o = opened greys size p.most (opening greys size p.start) h at in
      let refusal = patch_refused size 0 0 size.width size.height (length tones) in
      let done = answer_is greys size p.most (opening greys size p.start) h at before_it c Done to l.patch in
      memory_is greys size p.most (opening greys size p.start) h at before_it c Done to l.patch
      ∙ ap (λ (x : Open ℕ). x.memory) (patched_by refusal o (patched greys 0 0 size.width size.height tones o) done)

  pub same_greys : finished_greys card to.memory ≡ tones
  same_greys =
      let first : start size 0 ≡ 0 = omega arith in
      ap (λ ss. take (area size) (drop (start size (length ss)) to.memory)) still_empty
      ∙ (ap (λ i. take (area size) (drop i to.memory)) first
      ∙ (ap (take (area size)) laid_over ∙ whole_patch size tones at.memory l.count l.small))

  pub same_file : file_of card to.memory ≡ raw_file size.width size.height tones
  same_file = ap (raw_file size.width size.height) same_greys

  pub given_again : (lent : ℕ) → length (raw_file size.width size.height tones) ≤ lent → file_given to.notes to.memory lent ≡ Ok (raw_file size.width size.height tones)
  given_again lent fits =
      ap (λ k. file_given k to.memory lent) after_it.notes
      ∙ (gives card to.memory lent after_it.sound.long nothing_stale (subst (λ f. length f ≤ lent) (sym same_file) fits)
      ∙ ap Ok same_file)

-- a file that a write has made is that of its card's greys
made_of : (size : Size) (file : List ℕ) → MadeFile size file → (tones : List ℕ) × (file ≡ raw_file size.width size.height tones)
made_of size file f =
    let got = accepted_by f.card.notes f.card.memory (length f.before) (length file) (sym f.written.answer) in
    let tones = finished_greys got.card f.card.memory in
    let same : got.card ≡ f.notes = same_notes (sym got.opened ∙ f.opened) in
    let sized : got.card.size ≡ size = ap (λ (k : Notes). k.size) same ∙ f.sized in
    (tones, f.bytes ∙ (ap (take (length file)) (f.written.bytes ∙ given_after f.card.notes f.card.memory f.before _ got.gives) ∙ (first_of _ f.before (length file) got.count ∙ ap (λ (z : Size). raw_file z.width z.height tones) sized)))

pub once_more : OnceMore
once_more size file f h at p empty to load before after a room w =
    let made = made_of size file f in
    let tones = made.0 in
    let is : file ≡ raw_file size.width size.height tones = made.1 in
    let limits = p.begun.limits in
    let l = lays size.width size.height tones (limits.wide, limits.not_too_wide) (limits.high, limits.not_too_high) at to (rw is at load) in
    let again : file_given to.notes to.memory (length before) ≡ Ok file = given_again size tones h at p empty to l (length before) (rw is at room) ∙ ap Ok (sym is) in
    (w.answer ∙ ap (answer_given (λ f. Number (length f))) again, w.bytes ∙ given_after to.notes to.memory before file again)

-- the notes of an open card are within the limits, and its memory is of bytes
pub record Bounded (k : Notes) (m : List ℕ) : Type 0 where
  pub limits : Limits k.size
  pub few : length k.recipe ≤ k.most
  pub bytes : (i : ℕ) → get_or m i 0 ≤ 255

-- the greys of its finished plane are a picture
pictured : (k : Notes) (m : List ℕ) → length m ≡ room k → Bounded k m → IsPicture k.size.width k.size.height (finished_greys k m)
pictured k m long b =
    let from = start k.size (length k.recipe) in
    let part : from + area k.size ≤ length m = plane_within k.size (length k.recipe) k.most (length m) b.few long in
    let count : length (finished_greys k m) ≡ area k.size = length-take-le (area k.size) (drop from m) (omega (arith, part, length-drop from m)) in
    record {
      wide = (b.limits.wide, b.limits.not_too_wide);
      high = (b.limits.high, b.limits.not_too_high);
      count = count;
      tones = λ i l. subst (λ v. v ≤ 255) (sym (get_or-take (area k.size) (drop from m) i 0 (omega (arith, l, count)) ∙ get_or-drop from m i 0)) (b.bytes (from + i));
    }

-- so the file of an accepted write is read back
pub read_back : (at : State ℕ) (before after : List ℕ) (a : Answer ℕ) → Writes at before a after → (k : Notes) → at.notes ≡ Some k → Bounded k at.memory → ReadBack at a after
read_back at before after a w card opened bounded k n is e =
    let got = accepted_by at.notes at.memory (length before) n (sym w.answer ∙ e) in
    let same : got.card ≡ k = same_notes (sym got.opened ∙ is) in
    let file : take n after ≡ file_of k at.memory = ap (take n) (w.bytes ∙ given_after at.notes at.memory before _ got.gives) ∙ (first_of _ before n got.count ∙ ap (λ c. file_of c at.memory) same) in
    let long : length at.memory ≡ room k = got.long ∙ ap room same in
    let bound : Bounded k at.memory = subst (λ c. Bounded c at.memory) (same_notes (sym opened ∙ is)) bounded in
    let read = reads_back k.size.width k.size.height (finished_greys k at.memory) (pictured k at.memory long bound) in
    rw file read
