-- The file that is written of a picture is read as that picture, and as no other.
use Rattle.std.proofs.Common.{drop, Ok, Err, Result, ◌≡◌, ℕ, ◌+◌, ◌-◌, ◌*◌, ◌/◌, ◌%◌, ◌^◌, ◌<◌, true, List, [], ◌∷◌, ◌++◌, length, sym, refl, ap, ◌∙◌, subst, arith}
use Rattle.std.proofs.Math.Nat.{div-add-mod, mod-lt}
use Rattle.std.proofs.lemmas.Bool.Decides.{nat_tests}
use Rattle.std.proofs.lemmas.Fmt.{decimal_by_steps, length-decimal-le}
use Rattle.std.proofs.lemmas.List.{append_assoc, drop_at, length-append}
use Rattle.std.specs.Fmt.{decimal}
use Rattle.pgm.specs.Bytes.{digit}
use Rattle.pgm.specs.Grammar.{Digits, Field, Upto, Whole, Pgm, Within, P5}
use Rattle.pgm.specs.Grammar.Digits.{one as one_digit, more as more_digits}
use Rattle.pgm.specs.Grammar.Gap.{one as one_white}
use Rattle.pgm.specs.Raw.{OneFile, ReadsBack, ShortHeader, raw_file, raw_header}
use Rattle.pgm.specs.Reading.{Reading}
use Rattle.pgm.specs.Reading.Reading.{Shows}
use Rattle.pgm.specs.declared.machine.Known.TheVariants.{Width, Size}
use Rattle.pgm.specs.declared.faults.HeaderFault.{HeaderFault}
use Rattle.pgm.specs.declared.machine.Header.{Header}
use Rattle.pgm.proofs.Complete.{whole_found}
use Rattle.pgm.proofs.Readings.{one_reading}

-- the code of a digit is one
digit_code : (n : ℕ) → n < 10 → digit (48 + n) ≡ true
digit_code n h = grind (arith, nat_tests)

-- what is written of a number is its digits
last_digit : (n : ℕ) (ds : List ℕ) → Digits ds (n / 10) → Digits (ds ++ (48 + n % 10) ∷ []) n
last_digit n ds d =
    let small : n % 10 < 10 = mod-lt n (omega arith) in
    let value : n / 10 * 10 + (48 + n % 10 - 48) ≡ n = omega (arith, div-add-mod n 10) in
    subst (Digits (ds ++ (48 + n % 10) ∷ [])) value (more_digits (48 + n % 10) d (digit_code (n % 10) small))

pub decimal_digits : (n : ℕ) → n < 2 ^ 64 → Digits (decimal n) n
decimal_digits = decimal_by_steps (λ n ds. Digits ds n)
    (λ n small. let value : 48 + n - 48 ≡ n = omega arith in subst (Digits ((48 + n) ∷ [])) value (one_digit (48 + n) (digit_code n small)))
    (λ n ds big d. last_digit n ds d)

-- the header up to the width, to the height and to the maxval
abbrev to_width : ℕ → List ℕ
to_width w = (P5 ++ 10 ∷ []) ++ decimal w

abbrev to_height : ℕ → ℕ → List ℕ
to_height w h = (to_width w ++ 32 ∷ []) ++ decimal h

abbrev to_maxval : ℕ → ℕ → List ℕ
to_maxval w h = (to_height w h ++ 10 ∷ []) ++ 50 ∷ 53 ∷ 53 ∷ []

header_parts : (w h : ℕ) → raw_header w h ≡ to_maxval w h ++ 10 ∷ []
header_parts w h = simp append_assoc

-- the header is whole
module _ (w h : ℕ) (wide : Within 1024 w) (high : Within 256 h) where
  width_field : Upto (Width w) (to_width w)
  width_field = record {
    before = P5;
    gap = 10 ∷ [];
    digits = decimal w;
    whole = refl;
    sound = refl;
    gapped = one_white 10 refl;
    valued = decimal_digits w (omega (arith, wide.1));
    within = wide;
  }

  height_field : Upto (Size w h) (to_height w h)
  height_field = record {
    before = to_width w;
    gap = 32 ∷ [];
    digits = decimal h;
    whole = refl;
    sound = width_field;
    gapped = one_white 32 refl;
    valued = decimal_digits h (omega (arith, high.1));
    within = high;
  }

  maxval_field : Field (Upto (Size w h)) 255 255 (to_maxval w h)
  maxval_field = record {
    before = to_height w h;
    gap = 10 ∷ [];
    digits = 50 ∷ 53 ∷ 53 ∷ [];
    whole = refl;
    sound = height_field;
    gapped = one_white 10 refl;
    valued = more_digits 53 (more_digits 53 (one_digit 50 refl) refl) refl;
    within = (omega arith, omega arith);
  }

  pub whole_header : Whole w h 255 (raw_header w h)
  whole_header = record {
    numbers = to_maxval w h;
    last = 10;
    whole = header_parts w h;
    fields = maxval_field;
    blank = refl;
  }

-- and short
pub short_header : ShortHeader
short_header w h wide high =
    let across = length-decimal-le 4 w (omega arith) (omega (arith, wide.1)) (omega (arith, wide.1)) in
    let down = length-decimal-le 3 h (omega arith) (omega (arith, high.1)) (omega (arith, high.1)) in
    let gap = decimal w ++ 32 ∷ [] in
    let size = gap ++ decimal h in
    omega (arith, across, down, length-append (decimal w) (32 ∷ []), length-append gap (decimal h), length-append size (10 ∷ 50 ∷ 53 ∷ 53 ∷ 10 ∷ []))

-- the file of a picture is read as that picture
pub reads_back : ReadsBack
reads_back w h greys p = record {
  header = raw_header w h;
  whole = refl;
  sound = whole_header w h p.wide p.high;
  count = p.count;
  tones = p.tones;
}

-- a picture has one file, and no other picture has it
abbrev width_of : Reading → ℕ
width_of (Shows w h m samples) = w
width_of f = 0

abbrev height_of : Reading → ℕ
height_of (Shows w h m samples) = h
height_of f = 0

abbrev samples_of : Reading → List ℕ
samples_of (Shows w h m samples) = samples
samples_of f = []

no_other : (w h v k : ℕ) (greys others : List ℕ) → Shows w h 255 greys ≡ Shows v k 255 others → (w ≡ v) × (h ≡ k) × (greys ≡ others)
no_other w h v k greys others e = (ap width_of e, ap height_of e, ap samples_of e)

same_file : (w h v k : ℕ) (greys others : List ℕ) → (w ≡ v) × (h ≡ k) × (greys ≡ others) → raw_file w h greys ≡ raw_file v k others
same_file w h v k greys others e = rw (e.0, e.1, e.2) refl

pub one_file : OneFile
one_file w h v k greys others p q = (
  (λ e. no_other w h v k greys others
      (one_reading (raw_file v k others) (Shows w h 255 greys) (Shows v k 255 others) (rw e at (reads_back w h greys p)) (reads_back v k others q))),
  same_file w h v k greys others,
)

-- what a writer promises of pictures
pub ruleset pictures_written = (one_file, reads_back, short_header)

-- a file that is written of a size is read as no other picture, whatever its greys are
abbrev end_of : Result Header HeaderFault → ℕ
end_of (Ok h) = h.end
end_of (Err f) = 0

abbrev wide_of : Result Header HeaderFault → ℕ
wide_of (Ok h) = h.width
wide_of (Err f) = 0

abbrev high_of : Result Header HeaderFault → ℕ
high_of (Ok h) = h.height
high_of (Err f) = 0

pub read_written : (w h : ℕ) (greys : List ℕ) → Within 1024 w → Within 256 h →
    (v k m : ℕ) (samples : List ℕ) → Pgm (raw_file w h greys) v k m samples → (v ≡ w) × (k ≡ h) × (samples ≡ greys)
read_written w h greys wide high v k m samples p =
    let file = raw_file w h greys in
    let ours = whole_found w h 255 file (raw_header w h) greys (whole_header w h wide high) refl in
    let theirs = whole_found v k m file p.header samples p.sound p.whole in
    let same = sym theirs ∙ ours in
    let long : length p.header ≡ length (raw_header w h) = ap end_of same in
    let rest : drop (length (raw_header w h)) file ≡ greys = drop_at (raw_header w h) greys _ refl in
    let theirs-rest : drop (length p.header) file ≡ samples = ap (drop (length p.header)) p.whole ∙ drop_at p.header samples _ refl in
    (ap wide_of same, ap high_of same, sym theirs-rest ∙ (ap (λ n. drop n file) long ∙ rest))
