-- What is known of every element.
use Rattle.std.proofs.Common.{◌≡◌, ℕ, ◌<◌, ◌≤◌, max, true, List, [], ◌∷◌, ◌++◌, length, get_or, ℤ, nat_abs, refl, ⊎_elim, arith}
use Rattle.std.specs.List.{ContainsAt as Has, AllByRecursion}
use Rattle.std.proofs.ByRecursion.{All-get_or, All-weaker, has_append_right}
use Rattle.std.proofs.lemmas.Bool.Decides.{nat_tests}
use Rattle.std.proofs.lemmas.Bool.{and_parts, cases_lt}
use Rattle.recipes.specs.declared.places.Place.{Place}
use Rattle.recipes.specs.declared.element.Element.{Element}
use Rattle.recipes.specs.Places.{limited, IsLimited}
use Rattle.std.specs.List.{list_all}
use Rattle.recipes.specs.Lawful.{central, lawful_order}
use Rattle.recipes.specs.Placed.{placed}
use Rattle.recipes.specs.Reaches.{reach, IsGreatest}
use Rattle.recipes.proofs.Passing.{any_has}
use Rattle.recipes.proofs.Room.{limits}
use Rattle.recipes.proofs.Keeps.{sound}
use Rattle.recipes.proofs.Arrays.{length_placed}

pub placed_few : (e : Element) → length (placed e) ≤ 49
placed_few e = omega (arith, length_placed e, e.within)

all_limits : (ps : List Place) → list_all limited ps ≡ true → AllByRecursion IsLimited ps
all_limits [] e = tt
all_limits (p ∷ ps) e = let a = and_parts (limited p) (list_all limited ps) e in (limits p a.0, all_limits ps a.1)

pub places_limited : (e : Element) → AllByRecursion IsLimited (placed e)
places_limited e = all_limits (placed e) (sound (placed e) e.order e.sound).inside

pub place_limited : (e : Element) (i : ℕ) (d : Place) → i < length (placed e) → IsLimited (get_or (placed e) i d)
place_limited e i d h = All-get_or IsLimited (placed e) i d h (places_limited e)

order_bounds : (ps : List Place) (k : ℕ) → length ps ≤ 49 → lawful_order ps k ≡ true → (0 < k) × (k ≤ 24)
order_bounds ps k l e = (grind (arith, nat_tests), grind (arith, nat_tests))

pub order_positive : (e : Element) → 0 < e.order
order_positive e = (order_bounds (placed e) e.order (omega (arith, length_placed e, e.within)) (sound (placed e) e.order e.sound).ordered).0

pub order_few : (e : Element) → e.order ≤ 24
order_few e = (order_bounds (placed e) e.order (omega (arith, length_placed e, e.within)) (sound (placed e) e.order e.sound).ordered).1

-- the origin is among the places, in the core
pub centre : (e : Element) → (p : Place) × Has (placed e) p × (central p ≡ true)
centre e = any_has central (placed e) (sound (placed e) e.order e.sound).centred

module _ (d : Place → ℤ) where
  pub reach_push : (ps : List Place) (p : Place) → reach d (ps ++ p ∷ []) ≡ max (reach d ps) (nat_abs (d p))
  unfolding reach
  reach_push [] p = omega arith
  reach_push (q ∷ ps) p = omega (arith, reach_push ps p)

  pub reach_bounds : (ps : List Place) → AllByRecursion (λ p. nat_abs (d p) ≤ reach d ps) ps
  unfolding reach
  reach_bounds [] = tt
  reach_bounds (q ∷ ps) = (omega arith, All-weaker (λ p. nat_abs (d p) ≤ reach d ps) _ (λ p h. omega arith) ps (reach_bounds ps))

  pub reach_met : (q : Place) (ps : List Place) → (p : Place) × Has (q ∷ ps) p × (nat_abs (d p) ≡ reach d (q ∷ ps))
  unfolding reach
  reach_met q [] = (q, (0, omega arith, λ e. refl), omega arith)
  reach_met q (r ∷ ps) =
      let rest = reach_met r ps in
      ⊎_elim (λ h. (rest.0, has_append_right (q ∷ []) (r ∷ ps) rest.0 rest.1, omega (arith, rest.2)))
      (λ h. (q, (0, omega arith, λ e. refl), omega arith))
      (cases_lt (nat_abs (d q)) (reach d (r ∷ ps)))

  pub reach_greatest : (ps : List Place) (p : Place) → Has ps p → IsGreatest d ps (reach d ps)
  reach_greatest [] p h = absurd (omega (arith, h.1))
  reach_greatest (q ∷ ps) p h = record { bound = reach_bounds (q ∷ ps); met = reach_met q ps }

  pub reach_within : (n : ℕ) (ps : List Place) → AllByRecursion (λ p. nat_abs (d p) ≤ n) ps → reach d ps ≤ n
  unfolding reach
  reach_within n [] h = omega arith
  reach_within n (p ∷ ps) h = omega (arith, h.0, reach_within n ps h.1)

  -- an element's reach
  module _ (e : Element) (r : ℕ) (is : r ≡ reach d (placed e)) where
    pub element_reach : IsGreatest d (placed e) r
    element_reach = rw is (reach_greatest (placed e) (centre e).0 (centre e).1)

    pub element_near : ((p : Place) → IsLimited p → nat_abs (d p) ≤ 3) → r ≤ 3
    element_near h = rw is (reach_within 3 (placed e) (All-weaker IsLimited (λ p. nat_abs (d p) ≤ 3) h (placed e) (places_limited e)))
