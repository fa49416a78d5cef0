-- Writing one list after another over a third. Assumes nothing.
use Rattle.std.proofs.Common.{◌≡◌, ℕ, ◌+◌, ◌≤◌, List, ◌++◌, length, take, drop, sym, ap, ◌∙◌, arith}
use Rattle.std.proofs.lemmas.List.{append_assoc, length-append, length-take-le, take_at, drop_at, drop-drop}
use Rattle.stages.specs.Planes.{overwritten}

-- writing on from where a list ends writes the two lists joined
pub overwritten_on : {R : Type 0} (m : List R) (i : ℕ) (a b : List R) → i + length a ≤ length m → overwritten (overwritten m i a) (i + length a) b ≡ overwritten m i (a ++ b)
overwritten_on m i a b h =
    let front : length (take i m) ≡ i = length-take-le i m (omega arith) in
    let top : length (take i m ++ a) ≡ i + length a = omega (arith, front, length-append (take i m) a) in
    let split : overwritten m i a ≡ (take i m ++ a) ++ drop (i + length a) m = sym (append_assoc (take i m) a (drop (i + length a) m)) in
    let e : take (i + length a) (overwritten m i a) ≡ take i m ++ a = ap (take (i + length a)) split ∙ take_at (take i m ++ a) (drop (i + length a) m) (i + length a) top in
    let f : drop (i + length a) (overwritten m i a) ≡ drop (i + length a) m = ap (drop (i + length a)) split ∙ drop_at (take i m ++ a) (drop (i + length a) m) (i + length a) top in
    let r : drop ((i + length a) + length b) (overwritten m i a) ≡ drop ((i + length a) + length b) m = sym (drop-drop (length b) (i + length a) (overwritten m i a)) ∙ (ap (drop (length b)) f ∙ drop-drop (length b) (i + length a) m) in
    let n : (i + length a) + length b ≡ i + length (a ++ b) = omega (arith, length-append a b) in
    ap (λ t. t ++ (b ++ drop ((i + length a) + length b) (overwritten m i a))) e
    ∙ (ap (λ t. (take i m ++ a) ++ (b ++ t)) (r ∙ ap (λ k. drop k m) n)
    ∙ (append_assoc (take i m) a (b ++ drop (i + length (a ++ b)) m)
    ∙ ap (λ t. take i m ++ t) (sym (append_assoc a b (drop (i + length (a ++ b)) m)))))
