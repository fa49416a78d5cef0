-- A cell lies in its plane.
use Prim.Native.Nat.{ℕ, ◌<◌}
use native.Mathlib.Nat.{mul-le-mul_right, mul_comm, suc-mul}
use native.Mathlib.Omega.{arith}
use Rattle.planes.specs.Sizes.{area, cell}
use Rattle.planes.specs.declared.size.Size.{Size}

pub cell_within : (s : Size) (x y : ℕ) → x < s.width → y < s.height → cell s x y < area s
cell_within s x y p q =
    let e = mul-le-mul_right s.width q in omega (arith, e, suc-mul y s.width, mul_comm s.height s.width)
