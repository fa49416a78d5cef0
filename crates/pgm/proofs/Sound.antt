-- Whatever state the machine comes to, the bytes so far are what the grammar says there.
use Rattle.std.proofs.Common.{◌≡◌, ℕ, suc, ◌+◌, ◌-◌, ◌*◌, ◌<◌, min, true, false, eqb, ◌⊎◌, List, [], ◌∷◌, ◌++◌, length, Ok, Err, Result, sym, refl, ap, ◌∙◌, subst, inl, inr, arith}
use Rattle.std.proofs.lemmas.List.{append_assoc, append-nil, length_push}
use Rattle.std.proofs.lemmas.Bool.{cond_both}
use Rattle.std.proofs.lemmas.Bool.Decides.{nat_tests}
use Rattle.pgm.specs.Bytes.{line_end, white, digit}
use Rattle.pgm.specs.Classes.{class_of}
use Rattle.pgm.specs.Grammar.{Remark, Gap as Gapped, Digits, Within, Field, P5, limit, Upto, Whole, Fault}
use Rattle.pgm.specs.Grammar.Remark.{none as no_remark, more as more_remark}
use Rattle.pgm.specs.Grammar.Gap.{one as one_white, more as more_white, comment as one_comment}
use Rattle.pgm.specs.Grammar.Digits.{one as one_digit, more as more_digits}
use Rattle.pgm.specs.Grammar.Short.{nothing, in_mark, after_mark as short_mark, in_gap as short_gap, in_comment as short_comment, after_number as short_number}
use Rattle.pgm.specs.Grammar.Fault.{no_P as fault_P, no_5 as fault_5, after_mark as fault_mark, in_gap as fault_gap, after_number as fault_behind, outside_limits as fault_number, early}
use Rattle.pgm.specs.Machine.{after_byte, runs, after_class, marked, gapped, numbered, commented, closed, moved_on, within_limits, grown, closing, header_of}
use Rattle.pgm.specs.declared.bytes.Class.{Class}
use Rattle.pgm.specs.declared.faults.HeaderFault.{HeaderFault}
use Rattle.pgm.specs.declared.faults.HeaderFault.TheVariants.{Mark as MarkFault, Byte, Number as NumberFault, Early}
use Rattle.pgm.specs.declared.faults.FileFault.TheVariants.{Header as InHeader}
use Rattle.pgm.specs.declared.machine.Known.{Known}
use Rattle.pgm.specs.declared.machine.Known.TheVariants.{Nothing, Width, Size}
use Rattle.pgm.specs.declared.machine.Header.{Header}
use Rattle.pgm.specs.declared.machine.State.{State}
use Rattle.pgm.specs.declared.machine.State.TheVariants.{Mark, Gap, Number, Comment, Raster, Refused}
use Rattle.pgm.proofs.Sorts.{Sort, sort}
use Rattle.pgm.proofs.Sorts.Sort.{a_line, a_blank, a_digit, a_hash, a_letter, another}

record InGap (k : Known) (bs : List ℕ) : Type 0 where
  a : List ℕ
  g : List ℕ
  whole : bs ≡ a ++ g
  upto : Upto k a
  gapping : Gapped g

record InNumber (k : Known) (first v : ℕ) (bs : List ℕ) : Type 0 where
  a : List ℕ
  g : List ℕ
  d : List ℕ
  u : ℕ
  whole : bs ≡ (a ++ g) ++ d
  upto : Upto k a
  gapping : Gapped g
  digiting : Digits d u
  start : first ≡ length (a ++ g)
  value : v ≡ min u 1025

record InComment (k : Known) (bs : List ℕ) : Type 0 where
  a : List ℕ
  g : List ℕ
  c : List ℕ
  whole : bs ≡ (a ++ g) ++ 35 ∷ c
  upto : Upto k a
  gapping : Gapped g
  remarking : Remark c

-- a whole header, and then other bytes
pub record Behind (h : Header) (bs : List ℕ) : Type 0 where
  pub head : List ℕ
  pub rest : List ℕ
  pub whole : bs ≡ head ++ rest
  pub sound : Whole h.width h.height h.maxval head
  pub end : h.end ≡ length head

abbrev Stands : List ℕ → State → Type 0
Stands bs Mark = (bs ≡ []) ⊎ ((bs ≡ 80 ∷ []) ⊎ (bs ≡ P5))
Stands bs (Gap k) = InGap k bs
Stands bs (Number n) = InNumber n.known n.first n.value bs
Stands bs (Comment k) = InComment k bs
Stands bs (Raster h) = Behind h bs
Stands bs (Refused f) = (rest : List ℕ) → Fault (bs ++ rest) (InHeader f)

-- the mark
no_P : (b : ℕ) → (b ≡ 80 → ⊥) → (rest : List ℕ) → Fault ((b ∷ []) ++ rest) (InHeader (MarkFault 0))
no_P b n rest = fault_P b rest refl n

first_byte : (b : ℕ) {c : Class} → Sort b c → Stands (b ∷ []) (marked 0 c)
first_byte b (a_line l w d) = no_P b (λ e. grind (arith, nat_tests))
first_byte b (a_blank l w d) = no_P b (λ e. grind (arith, nat_tests))
first_byte b (a_digit l w d) = no_P b (λ e. grind (arith, nat_tests))
first_byte b (a_hash l w d h) = no_P b (λ e. omega arith)
first_byte b (a_letter l w d h) = inr (inl (ap (λ x. x ∷ []) h))
first_byte b (another l w d m n) = no_P b n

no_5 : (b : ℕ) → (b ≡ 53 → ⊥) → (rest : List ℕ) → Fault ((80 ∷ b ∷ []) ++ rest) (InHeader (MarkFault 1))
no_5 b n rest = fault_5 b rest refl n

second_byte : (b : ℕ) {c : Class} → Sort b c → Stands (80 ∷ b ∷ []) (marked 1 c)
second_byte b (a_line l w d) = no_5 b (λ e. grind (arith, nat_tests))
second_byte b (a_blank l w d) = no_5 b (λ e. grind (arith, nat_tests))
second_byte b (a_digit l w d) =
    cond_both (eqb (b - 48) 5) Mark (Refused (MarkFault 1)) (Stands (80 ∷ b ∷ []))
    (λ e. let five : b ≡ 53 = grind (arith, nat_tests) in inr (inr (ap (λ x. 80 ∷ x ∷ []) five)))
    (λ e. no_5 b (λ f. grind (arith, nat_tests)))
second_byte b (a_hash l w d h) = no_5 b (λ e. omega arith)
second_byte b (a_letter l w d h) = no_5 b (λ e. omega arith)
second_byte b (another l w d m n) = no_5 b (λ e. grind (arith, nat_tests))

after_mark : (b : ℕ) → white b ≡ false → (rest : List ℕ) → Fault ((80 ∷ 53 ∷ b ∷ []) ++ rest) (InHeader (Byte 2))
after_mark b n rest = fault_mark b rest refl n

begun : (b : ℕ) → white b ≡ true → InGap Nothing (80 ∷ 53 ∷ b ∷ [])
begun b w = record { a = P5; g = b ∷ []; whole = refl; upto = refl; gapping = one_white b w }

third_byte : (b : ℕ) {c : Class} → Sort b c → Stands (80 ∷ 53 ∷ b ∷ []) (marked 2 c)
third_byte b (a_line l w d) = begun b w
third_byte b (a_blank l w d) = begun b w
third_byte b (a_digit l w d) = after_mark b w
third_byte b (a_hash l w d h) = after_mark b w
third_byte b (a_letter l w d h) = after_mark b w
third_byte b (another l w d m n) = after_mark b w

-- a gap
module _ (k : Known) (a g : List ℕ) (up : Upto k a) (gs : Gapped g) (b : ℕ) where
  wider : white b ≡ true → InGap k ((a ++ g) ++ b ∷ [])
  wider w = record { a = a; g = g ++ b ∷ []; whole = append_assoc a g (b ∷ []); upto = up; gapping = more_white b gs w }

  gap_fault : white b ≡ false → digit b ≡ false → (b ≡ 35 → ⊥) → (rest : List ℕ) → Fault (((a ++ g) ++ b ∷ []) ++ rest) (InHeader (Byte (length (a ++ g))))
  gap_fault w d n rest = fault_gap k a g b rest up gs (append_assoc (a ++ g) (b ∷ []) rest) w d n

  begins : digit b ≡ true → InNumber k (length (a ++ g)) (b - 48) ((a ++ g) ++ b ∷ [])
  begins d = record { a = a; g = g; d = b ∷ []; u = b - 48; whole = refl; upto = up; gapping = gs; digiting = one_digit b d; start = refl; value = grind (arith, nat_tests) }

  gap_byte : {c : Class} → Sort b c → Stands ((a ++ g) ++ b ∷ []) (gapped k (length (a ++ g)) c)
  gap_byte (a_line l w d) = wider w
  gap_byte (a_blank l w d) = wider w
  gap_byte (a_digit l w d) = begins d
  gap_byte (a_hash l w d h) =
      record { a = a; g = g; c = []; whole = ap (λ x. (a ++ g) ++ x ∷ []) h; upto = up; gapping = gs; remarking = no_remark }
  gap_byte (a_letter l w d h) = gap_fault w d (λ e. omega arith)
  gap_byte (another l w d m n) = gap_fault w d m

-- a comment
module _ (k : Known) (a g r : List ℕ) (up : Upto k a) (gs : Gapped g) (rs : Remark r) (b : ℕ) where
  goes_on : line_end b ≡ false → InComment k (((a ++ g) ++ 35 ∷ r) ++ b ∷ [])
  goes_on l =
      record { a = a; g = g; c = r ++ b ∷ []; whole = append_assoc (a ++ g) (35 ∷ r) (b ∷ []); upto = up; gapping = gs; remarking = more_remark b rs l }

  comment_byte : {c : Class} → Sort b c → Stands (((a ++ g) ++ 35 ∷ r) ++ b ∷ []) (commented k c)
  comment_byte (a_line l w d) =
      record { a = a; g = (g ++ 35 ∷ r) ++ b ∷ []; whole = simp append_assoc; upto = up; gapping = one_comment b gs rs l }
  comment_byte (a_blank l w d) = goes_on l
  comment_byte (a_digit l w d) = goes_on l
  comment_byte (a_hash l w d h) = goes_on l
  comment_byte (a_letter l w d h) = goes_on l
  comment_byte (another l w d m n) = goes_on l

-- a number's value, held above every limit, and its limits
pub held_more : (u v d : ℕ) → v ≡ min u 1025 → grown v d ≡ min (u * 10 + d) 1025
held_more u v d e = grind (arith, nat_tests)

pub most_below : (k : Known) → limit k < 1025
most_below Nothing = omega arith
most_below (Width w) = omega arith
most_below (Size w h) = omega arith

pub limits_kept : (k : Known) (u v : ℕ) → v ≡ min u 1025 → within_limits k v ≡ true → Within (limit k) u × (u ≡ v)
limits_kept k u v e w = let m = most_below k in (grind (arith, nat_tests), grind (arith, nat_tests))

pub limits_broken : (k : Known) (u v : ℕ) → v ≡ min u 1025 → within_limits k v ≡ false → Within (limit k) u → ⊥
limits_broken k u v e w i = let m = most_below k in let p = i.0 in let q = i.1 in grind (arith, nat_tests)

-- a number
module _ (k : Known) (a g d : List ℕ) (u v : ℕ) (up : Upto k a) (gs : Gapped g) (ds : Digits d u) (e : v ≡ min u 1025) (b : ℕ) where
  field : Within (limit k) u → u ≡ v → Field (Upto k) (limit k) v ((a ++ g) ++ d)
  field i q =
      record { before = a; gap = g; digits = d; whole = refl; sound = up; gapped = gs; valued = subst (Digits d) q ds; within = subst (Within (limit k)) q i }

  outside : digit b ≡ false → within_limits k v ≡ false → (rest : List ℕ) → Fault ((((a ++ g) ++ d) ++ b ∷ []) ++ rest) (InHeader (NumberFault (length (a ++ g))))
  outside n f rest = fault_number k u a g d (b ∷ rest) up gs ds (append_assoc ((a ++ g) ++ d) (b ∷ []) rest) n (limits_broken k u v e f)

  cut_off : digit b ≡ false → white b ≡ false → Stands (((a ++ g) ++ d) ++ b ∷ []) (closed k (length (a ++ g)) v (length ((a ++ g) ++ d)) false)
  cut_off n w =
      cond_both (within_limits k v) (Refused (Byte (length ((a ++ g) ++ d)))) (Refused (NumberFault (length (a ++ g)))) (Stands (((a ++ g) ++ d) ++ b ∷ []))
      (λ t rest. let p = limits_kept k u v e t in fault_behind k v ((a ++ g) ++ d) b rest (field p.0 p.1) (append_assoc ((a ++ g) ++ d) (b ∷ []) rest) w n)
      (outside n)

next_number : (k : Known) (v : ℕ) (n : List ℕ) → Field (Upto k) (limit k) v n → (b : ℕ) → white b ≡ true → Stands (n ++ b ∷ []) (moved_on k v (length n))
next_number Nothing v n f b w = record { a = n; g = b ∷ []; whole = refl; upto = f; gapping = one_white b w }
next_number (Width x) v n f b w = record { a = n; g = b ∷ []; whole = refl; upto = f; gapping = one_white b w }
next_number (Size x y) v n f b w =
    record {
      head = n ++ b ∷ [];
      rest = [];
      whole = sym (append-nil (n ++ b ∷ []));
      sound = record { numbers = n; last = b; whole = refl; fields = f; blank = w };
      end = sym (length_push n b);
    }

module _ (k : Known) (a g d : List ℕ) (u v : ℕ) (up : Upto k a) (gs : Gapped g) (ds : Digits d u) (e : v ≡ min u 1025) (b : ℕ) where
  ended : digit b ≡ false → white b ≡ true → Stands (((a ++ g) ++ d) ++ b ∷ []) (closed k (length (a ++ g)) v (length ((a ++ g) ++ d)) true)
  ended n w =
      cond_both (within_limits k v) (moved_on k v (length ((a ++ g) ++ d))) (Refused (NumberFault (length (a ++ g)))) (Stands (((a ++ g) ++ d) ++ b ∷ []))
      (λ t. let p = limits_kept k u v e t in next_number k v ((a ++ g) ++ d) (field k a g d u v up gs ds e b p.0 p.1) b w)
      (outside k a g d u v up gs ds e b n)

  number_byte : {c : Class} → Sort b c → Stands (((a ++ g) ++ d) ++ b ∷ []) (numbered k (length (a ++ g)) v (length ((a ++ g) ++ d)) c)
  number_byte (a_line l w n) = ended n w
  number_byte (a_blank l w n) = ended n w
  number_byte (a_digit l w n) =
      record {
        a = a;
        g = g;
        d = d ++ b ∷ [];
        u = u * 10 + (b - 48);
        whole = append_assoc (a ++ g) d (b ∷ []);
        upto = up;
        gapping = gs;
        digiting = more_digits b ds n;
        start = refl;
        value = held_more u v (b - 48) e;
      }
  number_byte (a_hash l w n h) = cut_off k a g d u v up gs ds e b n w
  number_byte (a_letter l w n h) = cut_off k a g d u v up gs ds e b n w
  number_byte (another l w n m o) = cut_off k a g d u v up gs ds e b n w

-- one byte more
step : (bs : List ℕ) (b : ℕ) (s : State) → Stands bs s → Stands (bs ++ b ∷ []) (after_class (length bs) (class_of b) s)
step bs b Mark (inl e) = rw e (first_byte b (sort b))
step bs b Mark (inr (inl e)) = rw e (second_byte b (sort b))
step bs b Mark (inr (inr e)) = rw e (third_byte b (sort b))
step bs b (Gap k) r = rw r.whole (gap_byte k r.a r.g r.upto r.gapping b (sort b))
step bs b (Number n) r =
    rw (r.whole, r.start) (number_byte n.known r.a r.g r.d r.u n.value r.upto r.gapping r.digiting r.value b (sort b))
step bs b (Comment k) r = rw r.whole (comment_byte k r.a r.g r.c r.upto r.gapping r.remarking b (sort b))
step bs b (Raster h) r =
    record { head = r.head; rest = r.rest ++ b ∷ []; whole = ap (λ x. x ++ b ∷ []) r.whole ∙ append_assoc r.head r.rest (b ∷ []); sound = r.sound; end = r.end }
step bs b (Refused f) r = λ rest. rw append_assoc (r (b ∷ rest))

steps : (bs : List ℕ) (s : State) (rest : List ℕ) → Stands bs s → Stands (bs ++ rest) (runs s (length bs) rest)
unfolding runs after_byte
steps bs s [] r = rw append-nil r
steps bs s (b ∷ rest) r =
    let more = steps (bs ++ b ∷ []) (after_class (length bs) (class_of b) s) rest (step bs b s r) in
    let n : length (bs ++ b ∷ []) ≡ suc (length bs) = omega (arith, length_push bs b) in
    rw (append_assoc bs (b ∷ []) rest, n) at more

-- what the header of a file is found to be
abbrev pub Found : List ℕ → Result Header HeaderFault → Type 0
Found file (Ok h) = Behind h file
Found file (Err f) = Fault file (InHeader f)

found_by : (file : List ℕ) (s : State) → Stands file s → Found file (closing (length file) s)
found_by file Mark (inl e) = early (nothing e)
found_by file Mark (inr (inl e)) = early (in_mark e)
found_by file Mark (inr (inr e)) = early (short_mark e)
found_by file (Gap k) r = early (short_gap k r.a r.g r.upto r.gapping r.whole)
found_by file (Number n) r =
    cond_both (within_limits n.known n.value) (Early (length file)) (NumberFault n.first) (λ f. Fault file (InHeader f))
    (λ t. let p = limits_kept n.known r.u n.value r.value t in
    early (short_number n.known n.value (rw r.whole (field n.known r.a r.g r.d r.u n.value r.upto r.gapping r.digiting r.value 0 p.0 p.1))))
    (λ t. rw r.start (fault_number n.known r.u r.a r.g r.d [] r.upto r.gapping r.digiting (r.whole ∙ sym (append-nil _)) tt (limits_broken n.known r.u n.value r.value t)))
found_by file (Comment k) r = early (short_comment k r.a r.g r.c r.upto r.gapping r.remarking r.whole)
found_by file (Raster h) r = r
found_by file (Refused f) r = subst (λ x. Fault x (InHeader f)) (append-nil file) (r [])

pub found : (file : List ℕ) → Found file (header_of file)
found file = found_by file (runs Mark 0 file) (steps [] Mark file (inl refl))
