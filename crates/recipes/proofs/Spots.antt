-- Where places stand.
use Rattle.std.proofs.Common.{◌≡◌, true, ℤ, pos, negsuc, refl, ap, arith}
use Rattle.std.proofs.lemmas.Bool.Decides.{nat_tests}
use Rattle.recipes.specs.declared.places.Place.{Place}
use Rattle.recipes.specs.Places.{same, stands_at}

pub same_from : (a b : ℤ) → same a b ≡ true → a ≡ b
same_from (pos a) (pos b) e = ap pos (grind (arith, nat_tests))
same_from (pos a) (negsuc b) e = grind arith
same_from (negsuc a) (pos b) e = grind arith
same_from (negsuc a) (negsuc b) e = ap negsuc (grind (arith, nat_tests))

pub same_itself : (a : ℤ) → same a a ≡ true
same_itself (pos a) = grind (arith, nat_tests)
same_itself (negsuc a) = grind (arith, nat_tests)

pub same_flip : (a b : ℤ) → same a b ≡ same b a
same_flip (pos a) (pos b) = grind (arith, nat_tests)
same_flip (pos a) (negsuc b) = refl
same_flip (negsuc a) (pos b) = refl
same_flip (negsuc a) (negsuc b) = grind (arith, nat_tests)

-- p stands where q does just if q stands where p does
pub stands_flip : (p q : Place) → stands_at p.dx p.dy q ≡ stands_at q.dx q.dy p
stands_flip p q = rw (same_flip q.dx p.dx, same_flip q.dy p.dy)
