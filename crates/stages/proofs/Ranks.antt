-- The code that `ranked_code` gives.
use Rattle.std.proofs.Common.{◌≡◌, ℕ, zero, suc, ◌<◌, ◌≤◌, true, cond, leb, is_ok, Ok, Err, Result, sym, refl, subst, ⊎_elim, arith}
use Rattle.std.proofs.lemmas.Bool.{cases_lt, le-leb, lt-leb}
use Rattle.recipes.specs.declared.recipe.Operation.{Operation}
use Rattle.recipes.specs.declared.recipe.Operation.TheVariants.{Erosion, Dilation}
use Rattle.selectors.specs.Bag.{below, Ranked}
use Rattle.selectors.specs.Calls.{Selected}
use Rattle.selectors.specs.declared.refusals.SelectRefusal.{SelectRefusal}
use Rattle.selectors.proofs.Sums.{below_zero}
use Rattle.selectors.proofs.Ranks.{ranked_from}
use Rattle.stages.specs.Stages.{ranked_code, rank_of}

pub ranked_suc : (w : ℕ → ℕ) (r n : ℕ) → ranked_code w r (suc n) ≡ cond (leb r (below w n)) (ranked_code w r n) n
unfolding ranked_code
ranked_suc w r n = refl

-- it is the least code such that the codes up to it weigh at least r, and one of the n
pub ranked_is : (w : ℕ → ℕ) (r n : ℕ) → 0 < r → r ≤ below w n → Ranked w r (ranked_code w r n) × (ranked_code w r n < n)
ranked_is w r zero p h = absurd (omega (arith, below_zero w))
ranked_is w r (suc n) p h =
    let P : ℕ → Type 0 = λ c. Ranked w r c × (c < suc n) in
    ⊎_elim
    (λ (l : below w n < r).
    let e : ranked_code w r (suc n) ≡ n = rw (ranked_suc, lt-leb r (below w n) l) in
    subst P (sym e) (ranked_from w r n l h, omega arith))
    (λ (l : r ≤ below w n).
    let e : ranked_code w r (suc n) ≡ ranked_code w r n = rw (ranked_suc, le-leb r (below w n) l) in
    let q = ranked_is w r n p l in
    subst P (sym e) (q.0, omega (arith, q.1)))
    (cases_lt (below w n) r)

-- the rank of a stage is one of the ranks of its window
pub rank_positive : (o : Operation) (k n : ℕ) → 0 < k → 0 < rank_of o k n
rank_positive Erosion k n h = h
rank_positive Dilation k n h = omega arith

pub rank_within : (o : Operation) (k n : ℕ) → 0 < k → k ≤ n → rank_of o k n ≤ n
rank_within Erosion k n h l = l
rank_within Dilation k n h l = omega arith

-- a rank up to the total is not refused
pub selected_ok : (w : ℕ → ℕ) (n r : ℕ) (a : Result ℕ SelectRefusal) → 0 < r → r ≤ below w n → Selected w n r a → is_ok a ≡ true
selected_ok w n r (Ok c) p h s = refl
selected_ok w n r (Err e) p h s = absurd (⊎_elim (λ (z : r ≡ 0). omega (arith, z, p)) (λ (z : below w n < r). omega (arith, z, h)) s.1)
