-- A change of an element's array, as a change of its list of places.
use Rattle.std.proofs.Common.{◌≡◌, ℕ, ◌+◌, ◌<◌, true, false, [], ◌∷◌, ◌++◌, map, length, get_or, take, set, ℤ, Some, sym, ◌∙◌, arith}
use lib.Seq.{take-set-lt}
use Rattle.std.specs.List.{position}
use Rattle.std.proofs.lemmas.List.Quantifiers.{position-Some}
use Rattle.std.proofs.lemmas.List.{length-set, length-take-le, take_more_set, get_or-take}
use Rattle.recipes.specs.declared.places.Place.{Place}
use Rattle.recipes.specs.declared.element.Element.{Element}
use Rattle.recipes.specs.Places.{origin, stands_at, taken, in_limits, limited, amended}
use Rattle.recipes.specs.Lawful.{lawful}
use Rattle.recipes.specs.Placed.{placed}
use Rattle.recipes.proofs.Keeps.{sound, lawful_push, room_push, lawful_amended, amended_one}

pub length_placed : (e : Element) → length (placed e) ≡ e.count
length_placed e = length-take-le e.count e.places (omega (arith, e.long, e.within))

-- a place stored after the last one
module _ (e : Element) (p : Place) (in' : limited p ≡ true) (free : taken p.dx p.dy (placed e) ≡ false) where
  pub push_fits : e.count < 49
  push_fits = omega (arith, length_placed e, room_push (placed e) p e.order e.sound in' free)

  pub push_placed : take (e.count + 1) (set e.places e.count p) ≡ placed e ++ p ∷ []
  push_placed = take_more_set e.places e.count p (omega (arith, e.long, push_fits))

  pub push_lawful : lawful (take (e.count + 1) (set e.places e.count p)) e.order ≡ true
  push_lawful = rw push_placed (lawful_push (placed e) p e.order e.sound in' free)

-- the place of number i, with another amount
abbrev with_amount : Element → ℕ → ℤ → Place
with_amount e i amount = record { dx = (get_or e.places i origin).dx; dy = (get_or e.places i origin).dy; part = (get_or e.places i origin).part; amount = amount }

-- the amount of the place at these offsets
module _ (e : Element) (dx dy amount : ℤ) (i : ℕ) (at : Some i ≡ position (stands_at dx dy) (placed e)) where
  amend_at : (i < length (placed e)) × (stands_at dx dy (get_or (placed e) i origin) ≡ true)
  amend_at = let p = position-Some (stands_at dx dy) (placed e) i origin (sym at) in (p.0, p.1)

  pub amend_within : i < e.count
  amend_within = omega (arith, amend_at.0, length_placed e)

  pub amend_placed : take e.count (set e.places i (with_amount e i amount)) ≡ map (amended dx dy amount) (placed e)
  amend_placed =
      take-set-lt e.count e.places i (with_amount e i amount) amend_within
      ∙ rw (← get_or-take e.count e.places i origin amend_within) (sym (amended_one dx dy amount (placed e) i origin (sound (placed e) e.order e.sound).single amend_at.0 amend_at.1))

  pub amend_long : length (set e.places i (with_amount e i amount)) ≡ 49
  amend_long = length-set e.places i (with_amount e i amount) ∙ e.long

  pub amend_lawful : in_limits dx dy amount ≡ true → lawful (take e.count (set e.places i (with_amount e i amount))) e.order ≡ true
  amend_lawful in' = rw amend_placed (lawful_amended dx dy amount (placed e) e.order in' e.sound)
