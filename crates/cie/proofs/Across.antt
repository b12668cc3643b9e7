-- f does not fall across the limit, since the straight piece is not above the cube root there. Assumes nothing.
use Prim.Native.Nat.{ℕ, ◌*◌, ◌≤◌, ◌<◌}
use native.Mathlib.Omega.{arith}
use native.Mathlib.Nat.{mul-le-mul_left, mul-le-mul_right, mul-pos, div-mul-le_self, le_of_mul-le-mul_right}
use lib.Dec.{lit≤}
use Rattle.wide.specs.Roots.{cube_root}
use Rattle.wide.proofs.Greatest.{cubes, cube_root_above}
use Rattle.cie.specs.Colour.{limit_over, limit_under, straight_over, straight_under, straight_at}

-- the straight piece at the limit, as a fraction
abbrev over : ℕ
over = straight_over limit_over limit_under

abbrev under : ℕ
under = straight_under limit_under

-- its cube is at most the limit: by the constants of 2004 it is the limit, by those of 1997 it is more
at_limit : limit_under * (over * over * over) ≤ limit_over * (under * under * under)
at_limit = lit≤ tt

-- of any limit A / B and any S / U whose cube is at most that
module _ (A B S U : ℕ) (b : 0 < B) (u : 0 < U) (low : B * (S * S * S) ≤ A * (U * U * U)) (K p : ℕ) (h : p * U ≤ K * S) where
  -- what is at most K × S / U is at most K times the cube root of the limit
  cubed : p * p * p * B ≤ K * K * K * A
  cubed =
      le_of_mul-le-mul_right {k = U * U * U} (omega (arith, mul-le-mul_right B (cubes (p * U) (K * S) h).1, mul-le-mul_left (K * K * K) low))
      (mul-pos (mul-pos u u) u)

  -- and so of what is beyond it
  beyond : (D P : ℕ) → A * D < B * P → p * p * p * D ≤ K * K * K * P
  beyond D P high = le_of_mul-le-mul_right {k = B} (omega (arith, mul-le-mul_right D cubed, mul-le-mul_left (K * K * K) high)) b

module _ (K D : ℕ) (d : 0 < D) where
  -- up to the limit the straight piece is no more than at it
  up_to : (N p : ℕ) → limit_under * N ≤ limit_over * D → p * straight_under D ≤ K * straight_over N D → p * under ≤ K * over
  up_to N p low h = le_of_mul-le-mul_right {k = D} (omega (arith, h, mul-le-mul_left K low)) d

  pub across : (N P : ℕ) → limit_under * N ≤ limit_over * D → limit_over * D < limit_under * P → straight_at K N D ≤ cube_root K P D
  across N P low high =
      let p = straight_at K N D in
      cube_root_above K P D p d
      (beyond limit_over limit_under over under (omega arith) (omega arith) at_limit K p (up_to N p low (div-mul-le_self _ _)) D P high)
