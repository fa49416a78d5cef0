-- The outcome of a call on an open card whose memory has its length.
use Rattle.std.proofs.Common.{◌≡◌, ℕ, Bool, true, false, cond, not, List, length, Some, None, Option, sym, refl, ap, ◌∙◌}
use Rattle.std.proofs.lemmas.Bool.{eq-eqb}
use Rattle.tones.specs.Kind.{Kind}
use Rattle.calls.specs.Calls.{Notes, Open, State, Call, Answer, room}
use Rattle.calls.specs.Outcomes.{takes_memory, misfit, answer_open, after_open, kept_if, Outcome}

fits : {R : Type 0} (o : Open R) (c : Call R) → length o.memory ≡ room o.notes → misfit o c ≡ false
fits o c h = ap (λ b. cond (takes_memory c) (not b) false) (eq-eqb (length o.memory) (room o.notes) h) ∙ go (takes_memory c)
  where
    go : (b : Bool) → cond b (not true) false ≡ false
    go true = refl
    go false = refl

-- what a call leaves alone is as it was, refused or not
pub left_alone : {X Y : Type 0} (part : X → Y) (r : Option ℕ) (before after : X) → part after ≡ part before → part before ≡ part (kept_if r before after)
left_alone part None before after e = sym e
left_alone part (Some n) before after e = refl

pub answered : {T R : Type 0} (K : Kind T R) (before : Option Notes) (n : Notes) (w : ℕ → ℕ) (m : List R) (c : Call R) (a : Answer R) (to : State R) → before ≡ Some n → length m ≡ room n → a ≡ answer_open K (record { notes = n; weights = w; memory = m }) c → to.notes ≡ Some (after_open K (record { notes = n; weights = w; memory = m }) c).notes → ((code : ℕ) → to.weights code ≡ (after_open K (record { notes = n; weights = w; memory = m }) c).weights code) → to.memory ≡ (after_open K (record { notes = n; weights = w; memory = m }) c).memory → Outcome K (record { notes = before; weights = w; memory = m }) c a to
answered K before n w m c a to is long answer notes weights memory =
    let right = fits (record { notes = n; weights = w; memory = m }) c long in
    rw is (record {
      answer = rw right answer;
      notes = rw right notes;
      weights = λ code. rw right (weights code);
      memory = rw right memory;
    })
