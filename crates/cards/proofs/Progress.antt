-- One row more is redone.
use Rattle.std.proofs.Common.{◌≡◌, ℕ, zero, suc, ◌+◌, Bool, cond, ltb, List, Some, None, Option, sym, refl, ap, ◌∙◌, add-one}
use Rattle.planes.specs.declared.size.Size.{Size}
use Rattle.areas.specs.Areas.{dropped}
use Rattle.tones.specs.Kind.{Kind}
use Rattle.calls.specs.Calls.{Notes, Open, room}
use Rattle.calls.specs.Outcomes.{Task, task, task_made, task_weights, with_areas, redone, redone_rows}

same_else : (b : Bool) (v x y : ℕ) → x ≡ y → cond b v x ≡ cond b v y
same_else b v x y e = ap (cond b v) e

module _ {T R : Type 0} (K : Kind T R) where
  -- no row
  pub redone_none : (o : Open R) → redone_rows K 0 o ≡ o
  unfolding redone_rows
  redone_none o = refl

  redone_suc : (n : ℕ) (o : Open R) → redone_rows K (n + 1) o ≡ redone K (redone_rows K n o)
  unfolding redone_rows
  redone_suc n o = ap (λ i. redone_rows K i o) (add-one n)

  -- the weights that a task leaves depend on those before code by code
  weights_same : (size : Size) (t : Option Task) (m : List R) (before other : ℕ → ℕ) (c : ℕ) → before c ≡ other c → task_weights K size t m before c ≡ task_weights K size t m other c
  weights_same size None m before other c e = e
  weights_same size (Some t) m before other c e = same_else (ltb t.area.left t.area.right) _ (before c) (other c) e

  -- the size and the number of planes stay
  pub redone_room : (n : ℕ) (o : Open R) → room (redone_rows K n o).notes ≡ room o.notes
  unfolding redone_rows
  redone_room zero o = refl
  redone_room (suc n) o = redone_room n o

  module _ (n : ℕ) (o : Open R) (now : Notes) (before : List R) (is-notes : now ≡ (redone_rows K n o).notes) (is-memory : before ≡ (redone_rows K n o).memory) where
    pub notes_more : (new : Notes) → new ≡ with_areas now (dropped now.areas) → new ≡ (redone_rows K (n + 1) o).notes
    notes_more new e = e ∙ (ap (λ k. with_areas k (dropped k.areas)) is-notes ∙ sym (ap (λ p. p.notes) (redone_suc n o)))

    pub memory_more : (new : List R) → new ≡ task_made K now.size (task now) before → new ≡ (redone_rows K (n + 1) o).memory
    memory_more new e =
        e
        ∙ (ap (λ k. task_made K k.size (task k) before) is-notes
        ∙ (ap (λ m. task_made K (redone_rows K n o).notes.size (task (redone_rows K n o).notes) m) is-memory
        ∙ sym (ap (λ p. p.memory) (redone_suc n o))))

    pub weights_more : (weights : ℕ → ℕ) (c new : ℕ) → weights c ≡ (redone_rows K n o).weights c → new ≡ task_weights K now.size (task now) before weights c → new ≡ (redone_rows K (n + 1) o).weights c
    weights_more weights c new w e =
        let p = redone_rows K n o in
        e
        ∙ (ap (λ k. task_weights K k.size (task k) before weights c) is-notes
        ∙ (ap (λ m. task_weights K p.notes.size (task p.notes) m weights c) is-memory
        ∙ (weights_same p.notes.size (task p.notes) p.memory weights p.weights c w
        ∙ sym (ap (λ q. q.weights c) (redone_suc n o)))))
