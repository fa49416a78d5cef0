-- Whatever the grammar says of a file, the machine finds it: so a file has one reading at most.
use Rattle.std.proofs.Common.{◌≡◌, ℕ, suc, ◌+◌, ◌-◌, ◌*◌, min, true, false, cond, eqb, List, [], ◌∷◌, ◌++◌, length, drop, Some, None, Ok, Err, Result, sym, refl, ap, ◌∙◌, subst, inl, inr, arith}
use Rattle.std.proofs.lemmas.List.{append_assoc, append-nil, length_push, length-append, drop_at}
use Rattle.std.proofs.lemmas.Bool.{both_ways, cases_Bool, ne_eqb}
use Rattle.std.proofs.lemmas.Bool.Decides.{nat_tests}
use Rattle.pgm.specs.Bytes.{line_end, white, digit}
use Rattle.pgm.specs.Classes.{class_of}
use Rattle.pgm.specs.Grammar.{Remark, Gap as Gapped, Digits, Within, Field, P5, limit, Upto, Whole, NoDigit, Short, Fault}
use Rattle.pgm.specs.Grammar.Remark.{none as no_remark, more as more_remark}
use Rattle.pgm.specs.Grammar.Gap.{one as one_white, more as more_white, comment as one_comment}
use Rattle.pgm.specs.Grammar.Digits.{one as one_digit, more as more_digits}
use Rattle.pgm.specs.Grammar.Short.{nothing, in_mark, after_mark as short_mark, in_gap as short_gap, in_comment as short_comment, after_number as short_number}
use Rattle.pgm.specs.Grammar.Fault.{no_P as fault_P, no_5 as fault_5, after_mark as fault_mark, in_gap as fault_gap, after_number as fault_behind, outside_limits as fault_number, early, missing, extra, tone}
use Rattle.pgm.specs.Reading.{Reading, Reads}
use Rattle.pgm.specs.Reading.Reading.{Shows, Faulty}
use Rattle.pgm.specs.Machine.{after_byte, runs, after_class, marked, gapped, numbered, commented, closed, moved_on, in_number, within_limits, closing, header_of, final, FirstAbove, Unsampled}
use Rattle.pgm.specs.declared.bytes.Class.{Class}
use Rattle.pgm.specs.declared.bytes.Class.TheVariants.{Line, Blank, Digit}
use Rattle.pgm.specs.declared.faults.HeaderFault.{HeaderFault}
use Rattle.pgm.specs.declared.faults.HeaderFault.TheVariants.{Mark as MarkFault, Byte, Number as NumberFault, Early}
use Rattle.pgm.specs.declared.faults.FileFault.{FileFault}
use Rattle.pgm.specs.declared.faults.FileFault.TheVariants.{Header as InHeader, Count, Sample}
use Rattle.pgm.specs.declared.machine.Known.{Known}
use Rattle.pgm.specs.declared.machine.Known.TheVariants.{Nothing, Width, Size}
use Rattle.pgm.specs.declared.machine.Header.{Header}
use Rattle.pgm.specs.declared.machine.State.{State}
use Rattle.pgm.specs.declared.machine.State.TheVariants.{Mark, Gap, Comment, Raster, Refused}
use Rattle.pgm.proofs.Sorts.{Sort, sort, white_digit}
use Rattle.pgm.proofs.Sorts.Sort.{a_line, a_blank, a_digit, a_hash, a_letter, another}
use Rattle.pgm.proofs.Sound.{held_more, most_below, limits_kept}
use Rattle.pgm.proofs.Steps.{runs_final}

-- the state after the bytes of a list
abbrev run : List ℕ → State
run bs = runs Mark 0 bs

runs_append : (s : State) (at : ℕ) (xs ys : List ℕ) → runs s at (xs ++ ys) ≡ runs (runs s at xs) (at + length xs) ys
unfolding runs
runs_append s at [] ys = let e : at ≡ at + 0 = omega arith in ap (λ n. runs s n ys) e
runs_append s at (x ∷ xs) ys =
    let e : suc at + length xs ≡ at + suc (length xs) = omega arith in
    runs_append (after_byte at x s) (suc at) xs ys ∙ ap (λ n. runs (runs (after_byte at x s) (suc at) xs) n ys) e

-- one byte more
run_push : (bs : List ℕ) (b : ℕ) (s : State) → run bs ≡ s → run (bs ++ b ∷ []) ≡ after_class (length bs) (class_of b) s
unfolding runs after_byte
run_push bs b s e =
    let z : 0 + length bs ≡ length bs = omega arith in
    runs_append Mark 0 bs (b ∷ []) ∙ ap (λ t. after_class (0 + length bs) (class_of b) t) e ∙ ap (λ n. after_class n (class_of b) s) z

-- a final state stays
run_past : (bs rest : List ℕ) (s : State) → run bs ≡ s → final s ≡ true → run (bs ++ rest) ≡ s
run_past bs rest s e f = runs_append Mark 0 bs rest ∙ ap (λ t. runs t (0 + length bs) rest) e ∙ runs_final s (0 + length bs) rest f

-- what the machine does at a byte of a kind
at_white : (P : Class → Type 0) (b : ℕ) {c : Class} → Sort b c → white b ≡ true → P Line → P Blank → P c
at_white P b (a_line l w d) e p q = p
at_white P b (a_blank l w d) e p q = q
at_white P b (a_digit l w d) e p q = absurd (both_ways (white b) w e)
at_white P b (a_hash l w d h) e p q = absurd (both_ways (white b) w e)
at_white P b (a_letter l w d h) e p q = absurd (both_ways (white b) w e)
at_white P b (another l w d m o) e p q = absurd (both_ways (white b) w e)

at_digit : (b : ℕ) {c : Class} → Sort b c → digit b ≡ true → c ≡ Digit (b - 48)
at_digit b (a_line l w d) e = absurd (both_ways (digit b) d e)
at_digit b (a_blank l w d) e = absurd (both_ways (digit b) d e)
at_digit b (a_digit l w d) e = refl
at_digit b (a_hash l w d h) e = absurd (both_ways (digit b) d e)
at_digit b (a_letter l w d h) e = absurd (both_ways (digit b) d e)
at_digit b (another l w d m o) e = absurd (both_ways (digit b) d e)

at_nothing : (k : Known) (n b : ℕ) {c : Class} → Sort b c → white b ≡ false → digit b ≡ false → (b ≡ 35 → ⊥) → gapped k n c ≡ Refused (Byte n)
at_nothing k n b (a_line l w d) e f g = absurd (both_ways (white b) e w)
at_nothing k n b (a_blank l w d) e f g = absurd (both_ways (white b) e w)
at_nothing k n b (a_digit l w d) e f g = absurd (both_ways (digit b) f d)
at_nothing k n b (a_hash l w d h) e f g = absurd (g h)
at_nothing k n b (a_letter l w d h) e f g = refl
at_nothing k n b (another l w d m o) e f g = refl

remarked : (k : Known) (b : ℕ) {c : Class} → Sort b c → line_end b ≡ false → commented k c ≡ Comment k
remarked k b (a_line l w d) e = absurd (both_ways (line_end b) e l)
remarked k b (a_blank l w d) e = refl
remarked k b (a_digit l w d) e = refl
remarked k b (a_hash l w d h) e = refl
remarked k b (a_letter l w d h) e = refl
remarked k b (another l w d m o) e = refl

at_line : (k : Known) (b : ℕ) {c : Class} → Sort b c → line_end b ≡ true → commented k c ≡ Gap k
at_line k b (a_line l w d) e = refl
at_line k b (a_blank l w d) e = absurd (both_ways (line_end b) l e)
at_line k b (a_digit l w d) e = absurd (both_ways (line_end b) l e)
at_line k b (a_hash l w d h) e = absurd (both_ways (line_end b) l e)
at_line k b (a_letter l w d h) e = absurd (both_ways (line_end b) l e)
at_line k b (another l w d m o) e = absurd (both_ways (line_end b) l e)

at_end : (k : Known) (first v n b : ℕ) {c : Class} → Sort b c → digit b ≡ false → numbered k first v n c ≡ closed k first v n (white b)
at_end k first v n b (a_line l w d) e = ap (closed k first v n) (sym w)
at_end k first v n b (a_blank l w d) e = ap (closed k first v n) (sym w)
at_end k first v n b (a_digit l w d) e = absurd (both_ways (digit b) e d)
at_end k first v n b (a_hash l w d h) e = ap (closed k first v n) (sym w)
at_end k first v n b (a_letter l w d h) e = ap (closed k first v n) (sym w)
at_end k first v n b (another l w d m o) e = ap (closed k first v n) (sym w)

-- white space after a leads to a gap
abbrev Ready : Known → List ℕ → Type 0
Ready k a = (b : ℕ) → white b ≡ true → run (a ++ b ∷ []) ≡ Gap k

gap_more : (k : Known) (n b : ℕ) → white b ≡ true → gapped k n (class_of b) ≡ Gap k
gap_more k n b w = at_white (λ c. gapped k n c ≡ Gap k) b (sort b) w refl refl

comment_run : (k : Known) (a g c : List ℕ) → run (a ++ g) ≡ Gap k → Remark c → run ((a ++ g) ++ 35 ∷ c) ≡ Comment k
comment_run k a g _ e no_remark = run_push (a ++ g) 35 (Gap k) e
comment_run k a g _ e (more_remark {c} b r l) =
    ap run (sym (append_assoc (a ++ g) (35 ∷ c) (b ∷ [])))
    ∙ run_push ((a ++ g) ++ 35 ∷ c) b (Comment k) (comment_run k a g c e r) ∙ remarked k b (sort b) l

gap_run : (k : Known) (a g : List ℕ) → Ready k a → Gapped g → run (a ++ g) ≡ Gap k
gap_run k a _ ready (one_white b w) = ready b w
gap_run k a _ ready (more_white {g} b gs w) =
    ap run (sym (append_assoc a g (b ∷ []))) ∙ run_push (a ++ g) b (Gap k) (gap_run k a g ready gs) ∙ gap_more k (length (a ++ g)) b w
gap_run k a _ ready (one_comment {g} {c} b gs r l) =
    let q : a ++ ((g ++ 35 ∷ c) ++ b ∷ []) ≡ ((a ++ g) ++ 35 ∷ c) ++ b ∷ [] = simp append_assoc in
    ap run q ∙ run_push ((a ++ g) ++ 35 ∷ c) b (Comment k) (comment_run k a g c (gap_run k a g ready gs) r) ∙ at_line k b (sort b) l

digits_run : (k : Known) (bs d : List ℕ) (v : ℕ) → run bs ≡ Gap k → Digits d v → run (bs ++ d) ≡ in_number k (length bs) (min v 1025)
digits_run k bs _ _ e (one_digit b d) =
    let v : b - 48 ≡ min (b - 48) 1025 = grind (arith, nat_tests) in
    run_push bs b (Gap k) e ∙ ap (gapped k (length bs)) (at_digit b (sort b) d) ∙ ap (in_number k (length bs)) v
digits_run k bs _ _ e (more_digits {d} {v} b ds n) =
    ap run (sym (append_assoc bs d (b ∷ [])))
    ∙ run_push (bs ++ d) b (in_number k (length bs) (min v 1025)) (digits_run k bs d v e ds)
    ∙ ap (numbered k (length bs) (min v 1025) (length (bs ++ d))) (at_digit b (sort b) n)
    ∙ ap (in_number k (length bs)) (held_more v (min v 1025) (b - 48) refl)

-- a number within its limits
kept : (k : Known) (v : ℕ) → Within (limit k) v → (min v 1025 ≡ v) × (within_limits k v ≡ true)
kept k v i =
    let m = most_below k in let p = i.0 in let q = i.1 in (grind (arith, nat_tests), grind (arith, nat_tests))

field_run : (k : Known) (v : ℕ) (bs : List ℕ) → ((a : List ℕ) → Upto k a → Ready k a) → (f : Field (Upto k) (limit k) v bs) →
    run bs ≡ in_number k (length (f.before ++ f.gap)) v
field_run k v bs ready f =
    ap run f.whole
    ∙ digits_run k (f.before ++ f.gap) f.digits v (gap_run k f.before f.gap (ready f.before f.sound) f.gapped) f.valued
    ∙ ap (in_number k (length (f.before ++ f.gap))) (kept k v f.within).0

-- after a number within its limits and a byte that is no digit
field_push : (k : Known) (v : ℕ) (bs : List ℕ) → ((a : List ℕ) → Upto k a → Ready k a) → Field (Upto k) (limit k) v bs →
    (b : ℕ) → digit b ≡ false → run (bs ++ b ∷ []) ≡ cond (white b) (moved_on k v (length bs)) (Refused (Byte (length bs)))
field_push k v bs ready f b n =
    run_push bs b (in_number k (length (f.before ++ f.gap)) v) (field_run k v bs ready f)
    ∙ at_end k (length (f.before ++ f.gap)) v (length bs) b (sort b) n
    ∙ ap (λ t. cond t (cond (white b) (moved_on k v (length bs)) (Refused (Byte (length bs)))) (Refused (NumberFault (length (f.before ++ f.gap))))) (kept k v f.within).1

-- white space after a number within its limits
field_white : (k : Known) (v : ℕ) (bs : List ℕ) → ((a : List ℕ) → Upto k a → Ready k a) → Field (Upto k) (limit k) v bs →
    (b : ℕ) → white b ≡ true → run (bs ++ b ∷ []) ≡ moved_on k v (length bs)
field_white k v bs ready f b w =
    field_push k v bs ready f b (white_digit b w) ∙ ap (λ t. cond t (moved_on k v (length bs)) (Refused (Byte (length bs)))) w

ready_mark : (a : List ℕ) → a ≡ P5 → Ready Nothing a
unfolding runs after_byte
ready_mark a e b w = ap (λ x. run (x ++ b ∷ [])) e ∙ at_white (λ c. marked 2 c ≡ Gap Nothing) b (sort b) w refl refl

ready_upto : (k : Known) (a : List ℕ) → Upto k a → Ready k a
ready_upto Nothing a u = ready_mark a u
ready_upto (Width w) a u = field_white Nothing w a ready_mark u
ready_upto (Size w h) a u = field_white (Width w) h a (λ x. field_white Nothing w x ready_mark) u

-- a whole header is found, whatever follows it
abbrev header : ℕ → ℕ → ℕ → List ℕ → Header
header w h m a = record { width = w; height = h; maxval = m; end = length a }

whole_run : (w h m : ℕ) (a : List ℕ) → Whole w h m a → run a ≡ Raster (header w h m a)
whole_run w h m a f =
    let e : length f.numbers + 1 ≡ length a = sym (ap length f.whole ∙ length_push f.numbers f.last) in
    ap run f.whole ∙ field_white (Size w h) m f.numbers (ready_upto (Size w h)) f.fields f.last f.blank
    ∙ ap (λ n. Raster (record { width = w; height = h; maxval = m; end = n })) e

pub whole_found : (w h m : ℕ) (file a rest : List ℕ) → Whole w h m a → file ≡ a ++ rest → header_of file ≡ Ok (header w h m a)
whole_found w h m file a rest f e =
    ap (closing (length file)) (ap run e ∙ run_past a rest (Raster (header w h m a)) (whole_run w h m a f) refl)

-- the first fault of a header is found
at_fault : (file bs rest : List ℕ) (f : HeaderFault) → run bs ≡ Refused f → file ≡ bs ++ rest → header_of file ≡ Err f
at_fault file bs rest f r e = ap (closing (length file)) (ap run e ∙ run_past bs rest (Refused f) r refl)

at_last : (file bs : List ℕ) (s : State) → run bs ≡ s → file ≡ bs → header_of file ≡ closing (length file) s
at_last file bs s r e = ap (closing (length file)) (ap run e ∙ r)

short_found : (file : List ℕ) → Short file → header_of file ≡ Err (Early (length file))
unfolding runs after_byte
short_found file (nothing e) = at_last file [] Mark refl e
short_found file (in_mark e) = at_last file (80 ∷ []) Mark refl e
short_found file (short_mark e) = at_last file P5 Mark refl e
short_found file (short_gap k a g u gs e) = at_last file (a ++ g) (Gap k) (gap_run k a g (ready_upto k a u) gs) e
short_found file (short_comment k a g c u gs r e) =
    at_last file ((a ++ g) ++ 35 ∷ c) (Comment k) (comment_run k a g c (gap_run k a g (ready_upto k a u) gs) r) e
short_found file (short_number k v f) =
    at_last file file (in_number k (length (f.before ++ f.gap)) v) (field_run k v file (ready_upto k) f) refl
    ∙ ap (λ t. Err (cond t (Early (length file)) (NumberFault (length (f.before ++ f.gap))))) (kept k v f.within).1

-- a number outside its limits, with no digit behind it
module _ (file : List ℕ) (k : Known) (v : ℕ) (a g d : List ℕ) (up : Upto k a) (gs : Gapped g) (ds : Digits d v) (out : Within (limit k) v → ⊥) where
  broken : within_limits k (min v 1025) ≡ false
  broken = elim (cases_Bool (within_limits k (min v 1025))) [ inl t ↦ absurd (out (limits_kept k v (min v 1025) refl t).0) | inr f ↦ f ]

  so_far : run ((a ++ g) ++ d) ≡ in_number k (length (a ++ g)) (min v 1025)
  so_far = digits_run k (a ++ g) d v (gap_run k a g (ready_upto k a up) gs) ds

  number_found : (rest : List ℕ) → NoDigit rest → file ≡ ((a ++ g) ++ d) ++ rest → header_of file ≡ Err (NumberFault (length (a ++ g)))
  number_found [] n e =
      at_last file ((a ++ g) ++ d) (in_number k (length (a ++ g)) (min v 1025)) so_far (e ∙ append-nil ((a ++ g) ++ d))
      ∙ ap (λ t. Err (cond t (Early (length file)) (NumberFault (length (a ++ g))))) broken
  number_found (b ∷ rest) n e =
      at_fault file (((a ++ g) ++ d) ++ b ∷ []) rest (NumberFault (length (a ++ g)))
      (run_push ((a ++ g) ++ d) b (in_number k (length (a ++ g)) (min v 1025)) so_far
      ∙ at_end k (length (a ++ g)) (min v 1025) (length ((a ++ g) ++ d)) b (sort b) n
      ∙ ap (λ t. cond t (cond (white b) (moved_on k (min v 1025) (length ((a ++ g) ++ d))) (Refused (Byte (length ((a ++ g) ++ d))))) (Refused (NumberFault (length (a ++ g))))) broken)
      (e ∙ sym (append_assoc ((a ++ g) ++ d) (b ∷ []) rest))

-- a byte of the mark that is not the right one
not_P : (b : ℕ) {c : Class} → Sort b c → (b ≡ 80 → ⊥) → marked 0 c ≡ Refused (MarkFault 0)
not_P b (a_line l w d) n = refl
not_P b (a_blank l w d) n = refl
not_P b (a_digit l w d) n = refl
not_P b (a_hash l w d h) n = refl
not_P b (a_letter l w d h) n = absurd (n h)
not_P b (another l w d m o) n = refl

not_5 : (b : ℕ) {c : Class} → Sort b c → (b ≡ 53 → ⊥) → marked 1 c ≡ Refused (MarkFault 1)
not_5 b (a_line l w d) n = refl
not_5 b (a_blank l w d) n = refl
not_5 b (a_digit l w d) n =
    let f : eqb (b - 48) 5 ≡ false = ne_eqb (b - 48) 5 (λ e. n (grind (arith, nat_tests))) in
    ap (λ t. cond t Mark (Refused (MarkFault 1))) f
not_5 b (a_hash l w d h) n = refl
not_5 b (a_letter l w d h) n = refl
not_5 b (another l w d m o) n = refl

not_white : (b : ℕ) {c : Class} → Sort b c → white b ≡ false → marked 2 c ≡ Refused (Byte 2)
not_white b (a_line l w d) n = absurd (both_ways (white b) n w)
not_white b (a_blank l w d) n = absurd (both_ways (white b) n w)
not_white b (a_digit l w d) n = refl
not_white b (a_hash l w d h) n = refl
not_white b (a_letter l w d h) n = refl
not_white b (another l w d m o) n = refl

-- the samples behind the header h are judged so
abbrev pub Judged : List ℕ → Header → Reading → Type 0
Judged file h (Shows w y m samples) =
    (w ≡ h.width) × (y ≡ h.height) × (m ≡ h.maxval) × (samples ≡ drop h.end file)
    × (length file - h.end ≡ h.width * h.height) × FirstAbove h.maxval (drop h.end file) None
Judged file h (Faulty f) = Unsampled file h.end h f

-- a file whose header comes out so is read so
abbrev pub By : List ℕ → Result Header HeaderFault → Reading → Type 0
By file (Ok h) x = Judged file h x
By file (Err f) x = x ≡ Faulty (InHeader f)

by_fault : (file : List ℕ) (f : HeaderFault) → header_of file ≡ Err f → By file (header_of file) (Faulty (InHeader f))
by_fault file f e = subst (λ o. By file o (Faulty (InHeader f))) (sym e) refl

module _ (w h m : ℕ) (file a rest : List ℕ) (f : Whole w h m a) (e : file ≡ a ++ rest) where
  behind : drop (length a) file ≡ rest
  behind = ap (drop (length a)) e ∙ drop_at a rest (length a) refl

  long : length file ≡ length a + length rest
  long = ap length e ∙ length-append a rest

  by_samples : (x : Reading) → Judged file (header w h m a) x → By file (header_of file) x
  by_samples x j = subst (λ o. By file o x) (sym (whole_found w h m file a rest f e)) j

told : (file : List ℕ) (f : FileFault) → Fault file f → By file (header_of file) (Faulty f)
unfolding runs after_byte
told file _ (fault_P b rest e n) = by_fault file (MarkFault 0) (at_fault file (b ∷ []) rest (MarkFault 0) (not_P b (sort b) n) e)
told file _ (fault_5 b rest e n) = by_fault file (MarkFault 1) (at_fault file (80 ∷ b ∷ []) rest (MarkFault 1) (not_5 b (sort b) n) e)
told file _ (fault_mark b rest e n) = by_fault file (Byte 2) (at_fault file (80 ∷ 53 ∷ b ∷ []) rest (Byte 2) (not_white b (sort b) n) e)
told file _ (fault_gap k a g b rest u gs e w d n) =
    by_fault file (Byte (length (a ++ g)))
    (at_fault file ((a ++ g) ++ b ∷ []) rest (Byte (length (a ++ g)))
    (run_push (a ++ g) b (Gap k) (gap_run k a g (ready_upto k a u) gs) ∙ at_nothing k (length (a ++ g)) b (sort b) w d n)
    (e ∙ sym (append_assoc (a ++ g) (b ∷ []) rest)))
told file _ (fault_behind k v a b rest f e w d) =
    by_fault file (Byte (length a))
    (at_fault file (a ++ b ∷ []) rest (Byte (length a))
    (field_push k v a (ready_upto k) f b d ∙ ap (λ t. cond t (moved_on k v (length a)) (Refused (Byte (length a)))) w)
    (e ∙ sym (append_assoc a (b ∷ []) rest)))
told file _ (fault_number k v a g d rest u gs ds e n out) =
    by_fault file (NumberFault (length (a ++ g))) (number_found file k v a g d u gs ds out rest n e)
told file _ (early s) = by_fault file (Early (length file)) (short_found file s)
told file _ (missing w h m a rest f e n) =
    by_samples w h m file a rest f e (Faulty (Count (length file))) (inl (omega (arith, long w h m file a rest f e), refl))
told file _ (extra w h m a rest f e n) =
    by_samples w h m file a rest f e (Faulty (Count (length a + w * h))) (inr (omega (arith, long w h m file a rest f e), refl))
told file _ (tone w h m a rest i f e n l o b) =
    by_samples w h m file a rest f e (Faulty (Sample (length a + i))) (
      omega (arith, long w h m file a rest f e),
      (i, refl, subst (λ xs. FirstAbove m xs (Some i)) (sym (behind w h m file a rest f e)) (l, o, b)),
    )

pub by : (file : List ℕ) (x : Reading) → Reads file x → By file (header_of file) x
by file (Shows w h m samples) r =
    by_samples w h m file r.header samples r.sound r.whole (Shows w h m samples) (
      refl,
      refl,
      refl,
      sym (behind w h m file r.header samples r.sound r.whole),
      omega (arith, long w h m file r.header samples r.sound r.whole, r.count),
      subst (λ xs. FirstAbove m xs None) (sym (behind w h m file r.header samples r.sound r.whole)) r.tones,
    )
by file (Faulty f) r = told file f r
