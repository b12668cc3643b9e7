-- A white that an opening accepts: its sums are above 0, and X and Z are at most ten times Y. Assumes nothing.
use mathlib.Core.Path.{◌≡◌}
use mathlib.Core.Bool.{false, ◌||◌}
use Prim.Native.Nat.{ℕ, ◌*◌, ◌≤◌, ◌<◌}
use native.Mathlib.Omega.{arith}
use lib.Dec.{ltb, eqb}
use borrow.Author.Tests.{ltb-false, eqb-false}
use Rattle.cie.specs.declared.Sums.{Sums}
use Rattle.cie.specs.Sums.{lopsidedness, White}
use Rattle.cie.proofs.Scales.{or_left, or_right}

pub above_zero : (n : ℕ) → eqb n 0 ≡ false → 0 < n
above_zero n e = omega (arith, eqb-false n 0 e)

module _ {w : Sums} (W : White w) where
  pub white_x : 0 < w.x
  white_x = above_zero w.x (or_left (eqb w.x 0) (eqb w.y 0 || eqb w.z 0) W.lit)

  dark_rest : (eqb w.y 0 || eqb w.z 0) ≡ false
  dark_rest = or_right (eqb w.x 0) (eqb w.y 0 || eqb w.z 0) W.lit

  pub white_y : 0 < w.y
  white_y = above_zero w.y (or_left (eqb w.y 0) (eqb w.z 0) dark_rest)

  pub white_z : 0 < w.z
  white_z = above_zero w.z (or_right (eqb w.y 0) (eqb w.z 0) dark_rest)

  pub white_x_even : w.x ≤ lopsidedness * w.y
  white_x_even = ltb-false (lopsidedness * w.y) w.x (or_left (ltb (lopsidedness * w.y) w.x) (ltb (lopsidedness * w.y) w.z) W.even)

  pub white_z_even : w.z ≤ lopsidedness * w.y
  white_z_even = ltb-false (lopsidedness * w.y) w.z (or_right (ltb (lopsidedness * w.y) w.x) (ltb (lopsidedness * w.y) w.z) W.even)
