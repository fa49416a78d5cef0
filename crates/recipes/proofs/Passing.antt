-- Tests over all items of a list.
use Rattle.std.proofs.Common.{Some, None, ◌≡◌, ℕ, suc, ◌+◌, Bool, true, false, cond, ltb, ◌&&◌, ◌||◌, List, [], ◌∷◌, ◌++◌, map, length, count_by, sym, refl, ap, ◌∙◌, ⊎_elim, arith}
use Rattle.std.proofs.lemmas.List.Folds.{list_any-append, list_all-append}
use Rattle.std.proofs.lemmas.Bool.Decides.{nat_tests}
use Rattle.std.proofs.lemmas.Bool.{and_parts, and_from, or_cases, false≢true, lt-ltb}
use Rattle.std.proofs.ByRecursion.{has_append_right}
use Rattle.std.proofs.lemmas.List.Sums.{sum_by-cons}
use Rattle.std.specs.List.{ContainsAt as Has, list_any, list_all, position, position_or_len}
use Rattle.std.specs.Option.{is_some}

or_false : (a : Bool) → (a || false) ≡ a
or_false true = refl
or_false false = refl

and_true : (a : Bool) → (a && true) ≡ a
and_true true = refl
and_true false = refl

found : {X : Type 0} (b : Bool) (x : X) → is_some (cond b (Some x) None) ≡ b
found true x = refl
found false x = refl

module _ {X : Type 0} (test : X → Bool) where
  pub any_push : (xs : List X) (x : X) → list_any test (xs ++ x ∷ []) ≡ (list_any test xs || test x)
  any_push xs x = list_any-append test xs (x ∷ []) ∙ ap (λ b. list_any test xs || b) (or_false (test x))

  pub all_push : (xs : List X) (x : X) → list_all test (xs ++ x ∷ []) ≡ (list_all test xs && test x)
  all_push xs x = list_all-append test xs (x ∷ []) ∙ ap (λ b. list_all test xs && b) (and_true (test x))

  -- an item passes where the first that does has a position
  first_before : (xs : List X) → ltb (position_or_len test xs) (length xs) ≡ list_any test xs
  first_before [] = refl
  first_before (x ∷ xs) =
      let go : (b : Bool) → test x ≡ b → ltb (position_or_len test (x ∷ xs)) (suc (length xs)) ≡ (test x || list_any test xs) = λ b. elim b as (λ b. test x ≡ b → ltb (position_or_len test (x ∷ xs)) (suc (length xs)) ≡ (test x || list_any test xs)) [
        | true ↦ λ e. rw e (lt-ltb 0 (suc (length xs)) (omega arith))
        | false ↦ λ e. let s : ltb (1 + position_or_len test xs) (suc (length xs)) ≡ ltb (position_or_len test xs) (length xs) = grind (arith, nat_tests) in rw e (s ∙ first_before xs)
      ] in
      go (test x) refl

  pub any_position : (xs : List X) → list_any test xs ≡ is_some (position test xs)
  any_position xs = sym (found (ltb (position_or_len test xs) (length xs)) (position_or_len test xs) ∙ first_before xs)

  -- a change of the items that the test does not see
  pub any_map : (f : X → X) → ((x : X) → test (f x) ≡ test x) → (xs : List X) → list_any test (map f xs) ≡ list_any test xs
  any_map f e [] = refl
  any_map f e (x ∷ xs) = rw (e x, any_map f e xs)

  pub all_map : (f : X → X) → ((x : X) → test x ≡ true → test (f x) ≡ true) → (xs : List X) → list_all test xs ≡ true → list_all test (map f xs) ≡ true
  all_map f e [] a = refl
  all_map f e (x ∷ xs) a =
      let b = and_parts (test x) (list_all test xs) a in
      and_from (test (f x)) (list_all test (map f xs)) (e x b.0) (all_map f e xs b.1)

  pub countBy_map : (f : X → X) → ((x : X) → test (f x) ≡ test x) → (xs : List X) → count_by test (map f xs) ≡ count_by test xs
  countBy_map f e [] = refl
  countBy_map f e (x ∷ xs) =
      sum_by-cons (λ y. cond {A = ℕ} (test y) 1 0) (f x) (map f xs)
      ∙ rw (e x, countBy_map f e xs) (sym (sum_by-cons (λ y. cond {A = ℕ} (test y) 1 0) x xs))

  -- a test that passes somewhere
  pub any_has : (xs : List X) → list_any test xs ≡ true → (x : X) × Has xs x × (test x ≡ true)
  any_has [] e = absurd (false≢true e)
  any_has (x ∷ xs) e =
      ⊎_elim (λ h. (x, (0, omega arith, λ d. refl), h))
      (λ h. let p = any_has xs h in (p.0, has_append_right (x ∷ []) xs p.0 p.1, p.2))
      (or_cases (test x) (list_any test xs) e)
