-- How the header machine steps through a file.
use Rattle.std.proofs.Common.{◌≡◌, ℕ, suc, ◌+◌, ◌<◌, ◌≤◌, Bool, true, false, cond, eqb, List, [], ◌∷◌, length, get_or, drop, IfOk, Some, Result, sym, refl, ap, ◌∙◌, true≢false, add-one, drop-cons}
use mathlib.Core.Bool.{false≢true}
use Rattle.std.proofs.lemmas.List.{drop_all}
use Rattle.pgm.specs.Classes.{class_of}
use Rattle.pgm.specs.Machine.{Advanced, after_byte, runs, after_class, final, closing, moved_on, within_limits, is_letter, is_five, white_class}
use Rattle.pgm.specs.declared.bytes.Class.{Class}
use Rattle.pgm.specs.declared.bytes.Class.TheVariants.{Line, Blank, Digit, Hash, Letter, Other}
use Rattle.pgm.specs.declared.faults.HeaderFault.{HeaderFault}
use Rattle.pgm.specs.declared.faults.HeaderFault.TheVariants.{Mark as MarkFault, Byte, Number as NumberFault}
use Rattle.pgm.specs.declared.machine.Known.{Known}
use Rattle.pgm.specs.declared.machine.Known.TheVariants.{Nothing, Width, Size}
use Rattle.pgm.specs.declared.machine.Header.{Header}
use Rattle.pgm.specs.declared.machine.State.{State}
use Rattle.pgm.specs.declared.machine.State.TheVariants.{Mark, Gap, Number, Comment, Raster, Refused}

-- a whole header ends before the byte n
abbrev pub Ends : State → ℕ → Type 0
Ends Mark n = Unit {0}
Ends (Gap k) n = Unit {0}
Ends (Number m) n = Unit {0}
Ends (Comment k) n = Unit {0}
Ends (Raster h) n = n ≡ h.end
Ends (Refused f) n = Unit {0}

ends_marked : (at : ℕ) (c : Class) (a b : Bool) →
    Ends (cond a (cond (is_letter c) Mark (Refused (MarkFault 0))) (cond b (cond (is_five c) Mark (Refused (MarkFault 1))) (cond (white_class c) (Gap Nothing) (Refused (Byte at))))) (at + 1)
ends_marked at Line true b = tt
ends_marked at Line false true = tt
ends_marked at Line false false = tt
ends_marked at Blank true b = tt
ends_marked at Blank false true = tt
ends_marked at Blank false false = tt
ends_marked at (Digit d) true b = tt
ends_marked at (Digit d) false true = elim (eqb d 5) as (λ v. Ends (cond v Mark (Refused (MarkFault 1))) (at + 1)) [ true ↦ tt | false ↦ tt ]
ends_marked at (Digit d) false false = tt
ends_marked at Hash true b = tt
ends_marked at Hash false true = tt
ends_marked at Hash false false = tt
ends_marked at Letter true b = tt
ends_marked at Letter false true = tt
ends_marked at Letter false false = tt
ends_marked at Other true b = tt
ends_marked at Other false true = tt
ends_marked at Other false false = tt

ends_closed : (k : Known) (first v at : ℕ) (w a : Bool) →
    Ends (cond a (cond w (moved_on k v at) (Refused (Byte at))) (Refused (NumberFault first))) (at + 1)
ends_closed k first v at w false = tt
ends_closed k first v at false true = tt
ends_closed Nothing first v at true true = tt
ends_closed (Width x) first v at true true = tt
ends_closed (Size x y) first v at true true = refl

pub ends_after : (at : ℕ) (c : Class) (s : State) → final s ≡ false → Ends (after_class at c s) (at + 1)
ends_after at c Mark e = ends_marked at c (eqb at 0) (eqb at 1)
ends_after at Line (Gap k) e = tt
ends_after at Blank (Gap k) e = tt
ends_after at (Digit d) (Gap k) e = tt
ends_after at Hash (Gap k) e = tt
ends_after at Letter (Gap k) e = tt
ends_after at Other (Gap k) e = tt
ends_after at Line (Number m) e = ends_closed m.known m.first m.value at true (within_limits m.known m.value)
ends_after at Blank (Number m) e = ends_closed m.known m.first m.value at true (within_limits m.known m.value)
ends_after at (Digit d) (Number m) e = tt
ends_after at Hash (Number m) e = ends_closed m.known m.first m.value at false (within_limits m.known m.value)
ends_after at Letter (Number m) e = ends_closed m.known m.first m.value at false (within_limits m.known m.value)
ends_after at Other (Number m) e = ends_closed m.known m.first m.value at false (within_limits m.known m.value)
ends_after at Line (Comment k) e = tt
ends_after at Blank (Comment k) e = tt
ends_after at (Digit d) (Comment k) e = tt
ends_after at Hash (Comment k) e = tt
ends_after at Letter (Comment k) e = tt
ends_after at Other (Comment k) e = tt
ends_after at c (Raster h) e = absurd (true≢false e)
ends_after at c (Refused f) e = absurd (true≢false e)

-- a state that takes in nothing more stays
byte_final : (at b : ℕ) (s : State) → final s ≡ true → after_byte at b s ≡ s
unfolding after_byte
byte_final at b (Raster h) e = refl
byte_final at b (Refused f) e = refl
byte_final at b Mark e = absurd (false≢true e)
byte_final at b (Gap k) e = absurd (false≢true e)
byte_final at b (Number m) e = absurd (false≢true e)
byte_final at b (Comment k) e = absurd (false≢true e)

pub runs_final : (s : State) (at : ℕ) (bs : List ℕ) → final s ≡ true → runs s at bs ≡ s
unfolding runs
runs_final s at [] e = refl
runs_final s at (b ∷ bs) e = ap (λ t. runs t (suc at) bs) (byte_final at b s e) ∙ runs_final s (suc at) bs e

-- one byte more of a file
pub runs_next : (s : State) (file : List ℕ) (i : ℕ) → i < length file →
    runs s i (drop i file) ≡ runs (after_class i (class_of (get_or file i 0)) s) (i + 1) (drop (i + 1) file)
unfolding runs after_byte
runs_next s file i h = rw (add-one, drop-cons file i 0)

-- what is left of a file leads where the whole leads, one byte further on
pub runs_again : (R s t : State) (file : List ℕ) (i n : ℕ) (p : ℕ × ℕ) (c : Class) → runs s i (drop i file) ≡ R →
    Advanced file i (Some p) n → c ≡ class_of p.1 → t ≡ after_class p.0 c s → runs t n (drop n file) ≡ R
runs_again R s t file i n p c e a q r =
    let h : i < length file = a.0 in
    let m : n ≡ i + 1 = a.3 in
    let w : c ≡ class_of (get_or file i 0) = q ∙ ap class_of a.2 in
    let v : t ≡ after_class i (class_of (get_or file i 0)) s = r ∙ ap (λ x. after_class x c s) a.1 ∙ ap (λ x. after_class i x s) w in
    rw (v, m) (sym (runs_next s file i h) ∙ e)

-- where that state is final, it is where the whole file leads
pub runs_stop : (R t : State) (n : ℕ) (bs : List ℕ) → runs t n bs ≡ R → final t ≡ true → t ≡ R
runs_stop R t n bs e f = sym (runs_final t n bs f) ∙ e

-- a header that was closed ends before the next byte
pub closed_next : (r : Result Header HeaderFault) (s : State) (n len : ℕ) → r ≡ closing len s → Ends s n → IfOk r (λ h. n ≡ h.end)
closed_next r Mark n len e f = rw e tt
closed_next r (Gap k) n len e f = rw e tt
closed_next r (Number m) n len e f = rw e tt
closed_next r (Comment k) n len e f = rw e tt
closed_next r (Raster h) n len e f = rw e f
closed_next r (Refused g) n len e f = rw e tt

pub ends_open : (s : State) (n : ℕ) → final s ≡ false → Ends s n
ends_open Mark n e = tt
ends_open (Gap k) n e = tt
ends_open (Number m) n e = tt
ends_open (Comment k) n e = tt
ends_open (Raster h) n e = absurd (true≢false e)
ends_open (Refused f) n e = absurd (true≢false e)

-- no byte is left
pub runs_all : (s : State) (file : List ℕ) (i : ℕ) → length file ≤ i → runs s i (drop i file) ≡ s
unfolding runs
runs_all s file i h = rw (drop_all i file h)
