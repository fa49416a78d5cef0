-- What keeps an element lawful.
use Rattle.std.proofs.Common.{◌≡◌, ℕ, zero, suc, ◌<◌, Bool, true, false, cond, not, ◌&&◌, leb, List, [], ◌∷◌, ◌++◌, map, length, get_or, set, ℤ, nat_abs, sym, refl, ap, ◌∙◌, arith}
use Rattle.std.proofs.lemmas.List.{length_push, length-map}
use Rattle.std.proofs.lemmas.List.Sums.{sum_by_push}
use Rattle.std.proofs.lemmas.Bool.Decides.{nat_tests}
use Rattle.std.proofs.lemmas.Bool.{and_parts, and_from, or_parts, or_left, not-true, not_from_false}
use Rattle.recipes.specs.declared.places.Place.{Place}
use Rattle.std.proofs.lemmas.List.Folds.{list_any_at}
use Rattle.recipes.specs.Places.{same, stands_at, taken, in_limits, limited, soft, amended}
use Rattle.std.specs.List.{list_any, list_all}
use Rattle.recipes.specs.Lawful.{apart, central, lawful, lawful_order}
use Rattle.recipes.proofs.Passing.{any_push, all_push, any_map, all_map, countBy_map}
use Rattle.recipes.proofs.Spots.{same_from, stands_flip}
use Rattle.recipes.proofs.Room.{room}

-- the four parts of being lawful
pub record Sound (ps : List Place) (k : ℕ) : Type 0 where
  pub centred : list_any central ps ≡ true
  pub inside : list_all limited ps ≡ true
  pub single : apart ps ≡ true
  pub ordered : lawful_order ps k ≡ true

pub sound : (ps : List Place) (k : ℕ) → lawful ps k ≡ true → Sound ps k
unfolding lawful
sound ps k e =
    let a = and_parts (list_any central ps && list_all limited ps && apart ps) (lawful_order ps k) e in
    let b = and_parts (list_any central ps && list_all limited ps) (apart ps) a.0 in
    let d = and_parts (list_any central ps) (list_all limited ps) b.0 in
    record { centred = d.0; inside = d.1; single = b.1; ordered = a.1 }

pub lawful_from : (ps : List Place) (k : ℕ) → Sound ps k → lawful ps k ≡ true
unfolding lawful
lawful_from ps k s = rw (s.centred, s.inside, s.single, s.ordered)

-- a place where none stands
apart_push : (ps : List Place) (p : Place) → apart ps ≡ true → taken p.dx p.dy ps ≡ false → apart (ps ++ p ∷ []) ≡ true
unfolding apart
apart_push [] p a t = refl
apart_push (q ∷ ps) p a t =
    let b = and_parts (not (taken q.dx q.dy ps)) (apart ps) a in
    let d = or_parts (stands_at p.dx p.dy q) (taken p.dx p.dy ps) t in
    let e : taken q.dx q.dy (ps ++ p ∷ []) ≡ false = any_push (stands_at q.dx q.dy) ps p ∙ rw (not-true (taken q.dx q.dy ps) b.0, stands_flip q p, d.0) in
    and_from (not (taken q.dx q.dy (ps ++ p ∷ []))) (apart (ps ++ p ∷ [])) (not_from_false (taken q.dx q.dy (ps ++ p ∷ [])) e) (apart_push ps p b.1 d.1)

order_push : (ps : List Place) (p : Place) (k : ℕ) → lawful_order ps k ≡ true → lawful_order (ps ++ p ∷ []) k ≡ true
order_push ps p k e =
    let a = length_push ps p in
    let b = sum_by_push (λ q. cond {A = ℕ} (soft q) 1 0) ps p in
    grind (arith, nat_tests)

module _ (ps : List Place) (p : Place) (k : ℕ) (ok : lawful ps k ≡ true) (in' : limited p ≡ true) (free : taken p.dx p.dy ps ≡ false) where
  pub lawful_push : lawful (ps ++ p ∷ []) k ≡ true
  lawful_push =
      let s = sound ps k ok in
      lawful_from (ps ++ p ∷ []) k (record {
        centred = any_push central ps p ∙ or_left (list_any central ps) (central p) s.centred;
        inside = all_push limited ps p ∙ and_from (list_all limited ps) (limited p) s.inside in';
        single = apart_push ps p s.single free;
        ordered = order_push ps p k s.ordered;
      })

  -- there is room for it
  pub room_push : length ps < 49
  room_push =
      let s = sound ps k ok in
      omega (arith, length_push ps p, room (ps ++ p ∷ []) (all_push limited ps p ∙ and_from (list_all limited ps) (limited p) s.inside in') (apart_push ps p s.single free))

-- an amount in its limits
module _ (dx dy amount : ℤ) where
  -- an amended place stands where it stood, in the same part
  amended_at : (p : Place) → (b : Bool) → cond b (record { dx = p.dx; dy = p.dy; part = p.part; amount = amount }) p ≡ record { dx = p.dx; dy = p.dy; part = p.part; amount = cond b amount p.amount }
  amended_at p true = refl
  amended_at p false = refl

  amended_stands : (x y : ℤ) (p : Place) → stands_at x y (amended dx dy amount p) ≡ stands_at x y p
  amended_stands x y p = rw (amended_at p (stands_at dx dy p))

  amended_central : (p : Place) → central (amended dx dy amount p) ≡ central p
  amended_central p = rw (amended_at p (stands_at dx dy p))

  amended_soft : (p : Place) → soft (amended dx dy amount p) ≡ soft p
  amended_soft p = rw (amended_at p (stands_at dx dy p))

  amended_limited : in_limits dx dy amount ≡ true → (p : Place) → limited p ≡ true → limited (amended dx dy amount p) ≡ true
  amended_limited e p l =
      let offsets = (and_parts (leb (nat_abs p.dx) 3 && leb (nat_abs p.dy) 3) (leb (nat_abs p.amount) 1024) l).0 in
      let deep = (and_parts (leb (nat_abs dx) 3 && leb (nat_abs dy) 3) (leb (nat_abs amount) 1024) e).1 in
      let go : (b : Bool) → limited (cond b (record { dx = p.dx; dy = p.dy; part = p.part; amount = amount }) p) ≡ true = λ b. elim b as (λ b. limited (cond b (record { dx = p.dx; dy = p.dy; part = p.part; amount = amount }) p) ≡ true) [
        | true ↦ and_from (leb (nat_abs p.dx) 3 && leb (nat_abs p.dy) 3) (leb (nat_abs amount) 1024) offsets deep
        | false ↦ l
      ] in
      go (stands_at dx dy p)

  apart_amended : (ps : List Place) → apart (map (amended dx dy amount) ps) ≡ apart ps
  unfolding apart
  apart_amended [] = refl
  apart_amended (p ∷ ps) =
      rw (amended_at p (stands_at dx dy p), any_map (stands_at p.dx p.dy) (amended dx dy amount) (amended_stands p.dx p.dy) ps, apart_amended ps)

  pub lawful_amended : (ps : List Place) (k : ℕ) → in_limits dx dy amount ≡ true → lawful ps k ≡ true → lawful (map (amended dx dy amount) ps) k ≡ true
  lawful_amended ps k in' ok =
      let s = sound ps k ok in
      lawful_from (map (amended dx dy amount) ps) k (record {
        centred = any_map central (amended dx dy amount) amended_central ps ∙ s.centred;
        inside = all_map limited (amended dx dy amount) (amended_limited in') ps s.inside;
        single = apart_amended ps ∙ s.single;
        ordered = rw (length-map ps (amended dx dy amount), countBy_map soft (amended dx dy amount) amended_soft ps) s.ordered;
      })

  -- no place stands there: none is amended
  amended_none : (ps : List Place) → taken dx dy ps ≡ false → map (amended dx dy amount) ps ≡ ps
  amended_none [] t = refl
  amended_none (p ∷ ps) t =
      let b = or_parts (stands_at dx dy p) (taken dx dy ps) t in
      rw (b.0, amended_none ps b.1)

  -- where a place stands, no later one does
  alone : (p : Place) (ps : List Place) → stands_at dx dy p ≡ true → taken p.dx p.dy ps ≡ false → taken dx dy ps ≡ false
  alone p ps s t =
      let b = and_parts (same p.dx dx) (same p.dy dy) s in
      rw (← same_from p.dx dx b.0, ← same_from p.dy dy b.1) t

  -- one stands there: it alone is amended
  pub amended_one : (ps : List Place) (i : ℕ) (d : Place) → apart ps ≡ true → i < length ps → stands_at dx dy (get_or ps i d) ≡ true →
      map (amended dx dy amount) ps ≡ set ps i (record { dx = (get_or ps i d).dx; dy = (get_or ps i d).dy; part = (get_or ps i d).part; amount = amount })
  unfolding apart
  amended_one [] i d a h s = absurd (omega arith)
  amended_one (p ∷ ps) zero d a h s =
      let b = and_parts (not (taken p.dx p.dy ps)) (apart ps) a in
      rw (s, amended_none ps (alone p ps s (not-true (taken p.dx p.dy ps) b.0)))
  amended_one (p ∷ ps) (suc i) d a h s =
      let b = and_parts (not (taken p.dx p.dy ps)) (apart ps) a in
      let rest = amended_one ps i d b.1 (omega arith) s in
      let go : (x : Bool) → stands_at dx dy p ≡ x → x ≡ false = λ x. elim x as (λ x. stands_at dx dy p ≡ x → x ≡ false) [
        | true ↦ λ e. sym (list_any_at (stands_at dx dy) ps i d (omega arith) s) ∙ alone p ps e (not-true (taken p.dx p.dy ps) b.0)
        | false ↦ λ e. refl
      ] in
      rw (go (stands_at dx dy p) refl) (ap (λ qs. p ∷ qs) rest)
