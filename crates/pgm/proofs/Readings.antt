-- A file is read as its header and its samples are judged, and in no other way.
use Rattle.std.proofs.Common.{◌≡◌, ℕ, ◌+◌, List, ◌++◌, length, drop, Some, None, Ok, Err, Result, sym, ap, ◌∙◌, subst, inl, inr, arith}
use Rattle.std.proofs.lemmas.List.{length-append, drop_at}
use Rattle.std.proofs.lemmas.Bool.{cases_order}
use Rattle.pgm.specs.Grammar.Fault.{missing, extra, tone}
use Rattle.pgm.specs.Machine.{header_of, FirstAbove}
use Rattle.pgm.specs.Reading.{Reading, Reads, OneReading}
use Rattle.pgm.specs.Reading.Reading.{Shows, Faulty}
use Rattle.pgm.specs.declared.faults.FileFault.TheVariants.{Header as InHeader, Count, Sample}
use Rattle.pgm.specs.declared.faults.HeaderFault.{HeaderFault}
use Rattle.pgm.specs.declared.machine.Header.{Header}
use Rattle.pgm.proofs.Complete.{Judged, By, by}
use Rattle.pgm.proofs.Sound.{Behind, Found, found}

-- the samples of a header are judged in one way
first_one : (m : ℕ) (xs : List ℕ) (i j : ℕ) → FirstAbove m xs (Some i) → FirstAbove m xs (Some j) → i ≡ j
first_one m xs i j p q =
    elim (cases_order i j) [
      | inl e ↦ e
      | inr o ↦ elim o [ inl l ↦ omega (arith, q.2 i l, p.1) | inr l ↦ omega (arith, p.2 j l, q.1) ]
    ]

judged_one : (file : List ℕ) (h : Header) (x y : Reading) → Judged file h x → Judged file h y → x ≡ y
judged_one file h (Shows w z m s) (Shows w' z' m' s') p q =
    ap (λ n. Shows n z m s) (p.0 ∙ sym q.0) ∙ ap (λ n. Shows w' n m s) (p.1 ∙ sym q.1)
    ∙ ap (λ n. Shows w' z' n s) (p.2 ∙ sym q.2) ∙ ap (Shows w' z' m') (p.3 ∙ sym q.3)
judged_one file h (Shows w z m s) (Faulty (Count n)) p (inl q) = absurd (omega (arith, p.4, q.0))
judged_one file h (Shows w z m s) (Faulty (Count n)) p (inr q) = absurd (omega (arith, p.4, q.0))
judged_one file h (Shows w z m s) (Faulty (Sample n)) p q = absurd (omega (arith, p.5 q.1.0 q.1.2.0, q.1.2.1))
judged_one file h (Faulty (Count n)) (Shows w z m s) (inl p) q = absurd (omega (arith, q.4, p.0))
judged_one file h (Faulty (Count n)) (Shows w z m s) (inr p) q = absurd (omega (arith, q.4, p.0))
judged_one file h (Faulty (Count n)) (Faulty (Count n')) (inl p) (inl q) = ap (λ k. Faulty (Count k)) (p.1 ∙ sym q.1)
judged_one file h (Faulty (Count n)) (Faulty (Count n')) (inl p) (inr q) = absurd (omega (arith, p.0, q.0))
judged_one file h (Faulty (Count n)) (Faulty (Count n')) (inr p) (inl q) = absurd (omega (arith, p.0, q.0))
judged_one file h (Faulty (Count n)) (Faulty (Count n')) (inr p) (inr q) = ap (λ k. Faulty (Count k)) (p.1 ∙ sym q.1)
judged_one file h (Faulty (Count n)) (Faulty (Sample n')) (inl p) q = absurd (omega (arith, p.0, q.0))
judged_one file h (Faulty (Count n)) (Faulty (Sample n')) (inr p) q = absurd (omega (arith, p.0, q.0))
judged_one file h (Faulty (Sample n)) (Shows w z m s) p q = absurd (omega (arith, q.5 p.1.0 p.1.2.0, p.1.2.1))
judged_one file h (Faulty (Sample n)) (Faulty (Count n')) p (inl q) = absurd (omega (arith, p.0, q.0))
judged_one file h (Faulty (Sample n)) (Faulty (Count n')) p (inr q) = absurd (omega (arith, p.0, q.0))
judged_one file h (Faulty (Sample n)) (Faulty (Sample n')) p q =
    let e = first_one h.maxval (drop h.end file) p.1.0 q.1.0 p.1.2 q.1.2 in
    ap (λ k. Faulty (Sample k)) (p.1.1 ∙ ap (λ i. h.end + i) e ∙ sym q.1.1)
judged_one file h (Faulty (InHeader f)) y p q = absurd p
judged_one file h (Shows w z m s) (Faulty (InHeader f)) p q = absurd q
judged_one file h (Faulty (Count n)) (Faulty (InHeader f)) p q = absurd q
judged_one file h (Faulty (Sample n)) (Faulty (InHeader f)) p q = absurd q

by_one : (file : List ℕ) (o : Result Header HeaderFault) (x y : Reading) → By file o x → By file o y → x ≡ y
by_one file (Ok h) x y p q = judged_one file h x y p q
by_one file (Err f) x y p q = p ∙ sym q

-- a file has one reading at most
pub one_reading : OneReading
one_reading file a b p q = by_one file (header_of file) a b (by file a p) (by file b q)

-- it has the reading that its header and samples say
module _ (file : List ℕ) (h : Header) (f : Behind h file) where
  rest : drop h.end file ≡ f.rest
  rest = ap (drop h.end) f.whole ∙ drop_at f.head f.rest h.end (sym f.end)

  long : length file ≡ h.end + length f.rest
  long = ap length f.whole ∙ length-append f.head f.rest ∙ ap (λ n. n + length f.rest) (sym f.end)

  judged_reads : (x : Reading) → Judged file h x → Reads file x
  judged_reads (Shows w y m s) j =
      let s-rest : s ≡ f.rest = j.3 ∙ rest in
      record {
        header = f.head;
        whole = f.whole ∙ ap (λ z. f.head ++ z) (sym s-rest);
        sound = rw (j.0, j.1, j.2) f.sound;
        count = rw (j.0, j.1) (omega (arith, ap length s-rest, long, j.4));
        tones = subst (λ xs. FirstAbove m xs None) (sym j.3) (rw j.2 j.5);
      }
  judged_reads (Faulty (InHeader g)) j = absurd j
  judged_reads (Faulty (Count n)) (inl j) =
      rw j.1 (missing h.width h.height h.maxval f.head f.rest f.sound f.whole (omega (arith, long, j.0)))
  judged_reads (Faulty (Count n)) (inr j) =
      rw (j.1, f.end) (extra h.width h.height h.maxval f.head f.rest f.sound f.whole (omega (arith, long, j.0)))
  judged_reads (Faulty (Sample n)) j =
      let above = subst (λ xs. FirstAbove h.maxval xs (Some j.1.0)) rest j.1.2 in
      rw (j.1.1, f.end)
      (tone h.width h.height h.maxval f.head f.rest j.1.0 f.sound f.whole (omega (arith, long, j.0)) above.0 above.1 above.2)

reads_by : (file : List ℕ) (o : Result Header HeaderFault) (x : Reading) → Found file o → By file o x → Reads file x
reads_by file (Ok h) x f j = judged_reads file h f x j
reads_by file (Err g) x f j = subst (Reads file) (sym j) f

reads : (file : List ℕ) (x : Reading) → By file (header_of file) x → Reads file x
reads file x j = reads_by file (header_of file) x (found file) j

-- what is read so is read in no other way
only : (file : List ℕ) (x : Reading) → By file (header_of file) x → (other : Reading) → Reads file other → other ≡ x
only file x j other r = by_one file (header_of file) other x (by file other r) j

-- all that is promised of a reading, from what the header comes out as
abbrev pub Settled : List ℕ → Reading → Type 0
Settled file x = record { answer : Reads file x; unambiguous : OneReading; only : (other : Reading) → Reads file other → other ≡ x }

pub settled : (file : List ℕ) (o : Result Header HeaderFault) (x : Reading) → o ≡ header_of file → By file o x → Settled file x
settled file o x e j =
    let by_file : By file (header_of file) x = subst (λ p. By file p x) e j in
    record { answer = reads file x by_file; unambiguous = one_reading; only = only file x by_file }
