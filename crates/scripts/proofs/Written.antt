-- Words that write rows, one row more at a time.
use Rattle.std.proofs.Common.{◌≡◌, ℕ, ◌<◌, [], ◌∷◌, ◌++◌, List, length, take, drop, min, refl, sym, ap, ◌∙◌, subst, append-nil, append_assoc, length-append, arith}
use Rattle.std.proofs.Math.Seq.{drop-append_seam, take-append_seam}
use Rattle.scripts.specs.Words.{Rest}
use Rattle.scripts.specs.Rows.{HasParts, RowsWritten}

pub empty : {X : Type 0} (xs : List X) → length xs ≡ 0 → xs ≡ []
empty [] none = refl
empty (x ∷ xs) none = absurd (omega arith)

-- lists that begin alike, for as many elements, go on alike
same_rest : {X : Type 0} (a b xs ys : List X) → a ++ xs ≡ b ++ ys → length a ≡ length b → xs ≡ ys
same_rest a b xs ys same long =
    sym (drop-append_seam a xs) ∙ ap (λ n. drop n (a ++ xs)) long ∙ ap (λ zs. drop (length b) zs) same ∙ drop-append_seam b ys

same_first : {X : Type 0} (a b xs ys : List X) → a ++ xs ≡ b ++ ys → length a ≡ length b → a ≡ b
same_first a b xs ys same long =
    sym (take-append_seam a xs) ∙ ap (λ n. take n (a ++ xs)) long ∙ ap (λ zs. take (length b) zs) same ∙ take-append_seam b ys

module _ {R : Type 0} (Written : Rest → R → Type 0) where
  -- the words of one row more come last
  pub rows_then : (ws last : Rest) (rows : List R) (row : R) → RowsWritten Written ws rows → Written last row → RowsWritten Written (ws ++ last) (rows ++ row ∷ [])
  rows_then ws last [] row none written = (last, [], ap (λ xs. xs ++ last) none ∙ sym (append-nil last), written, refl)
  rows_then ws last (r ∷ rows) row (first, others, split, says, rest) written =
      (first, others ++ last, ap (λ xs. xs ++ last) split ∙ append_assoc first others last, says, rows_then others last rows row rest written)

  module _ (n : ℕ) (sized : HasParts Written n) where
    -- words after those of some rows write the rows that are left
    pub rows_left : (before rest all : Rest) (rows others : List R) → RowsWritten Written before rows → all ≡ before ++ rest → RowsWritten Written all others → (more : List R) × RowsWritten Written rest more
    rows_left before rest all [] others none same says =
        (others, subst (λ (ws : Rest). RowsWritten Written ws others) (same ∙ ap (λ ws. ws ++ rest) none) says)
    rows_left before rest all (row ∷ rows) [] (first, left, split, is, so) same none =
        let long = sized.1 first row is in
        absurd (omega (arith, sized.0, ap length same, ap length none, ap length split, length-append before rest, length-append first left))
    rows_left before rest all (row ∷ rows) (other ∷ others) (first, left, split, is, so) same (begin, more, cut, says, then) =
        let parts : begin ++ more ≡ first ++ (left ++ rest) = sym cut ∙ same ∙ ap (λ ws. ws ++ rest) split ∙ append_assoc first left rest in
        rows_left left rest more rows others so (same_rest begin first more (left ++ rest) parts (sized.1 begin other says ∙ sym (sized.1 first row is))) then

    none_left : (part rest : Rest) (rows : List R) → 0 < length part → length part ≡ min n (length (part ++ rest)) → ((row : R) → Written part row → ⊥) → RowsWritten Written (part ++ rest) rows → ⊥
    none_left part rest [] some long none says = absurd (omega (arith, ap length says, length-append part rest))
    none_left part rest (row ∷ rows) some long none (first, others, split, is, so) =
        let whole : length part ≡ length first = omega (arith, sized.1 first row is, ap length split, length-append part rest, length-append first others) in
        none row (subst (λ (ws : Rest). Written ws row) (sym (same_first part first rest others split whole)) is)

    -- no rows are written where words of the number of a row, or the last ones, write none
    pub none_written : (before part rest all : Rest) (rows others : List R) → RowsWritten Written before rows → all ≡ before ++ (part ++ rest) → 0 < length part → length part ≡ min n (length (part ++ rest)) → ((row : R) → Written part row → ⊥) → RowsWritten Written all others → ⊥
    none_written before part rest all rows others so same some long none says =
        let (more, left) = rows_left before (part ++ rest) all rows others so same says in
        none_left part rest more some long none left
