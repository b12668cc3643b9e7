-- A signed number as a call passes it: what fits 32 bits survives. Assumes nothing.
use mathlib.Core.Path.{◌≡◌}
use Prim.Native.Nat.{◌^◌, ◌<◌}
use native.Mathlib.Nat.{lt_of_le_of_lt}
use lib.IntN.{ℤ, nat_abs}
use lib.Signed.{mag}
use mir.Facts.{to_z-of_z}
use mir.Syntax.{w32}
use mir.Val.{to_z, of_z}
use Rattle.signed.proofs.Signs.{mag_le}

abbrev pub passed : ℤ → ℤ
passed z = to_z w32 (of_z w32 z)

pub survives : {z : ℤ} → mag z < 2 ^ 31 → passed z ≡ z
survives {z} h = to_z-of_z {w = w32} {z = z} (record { sfits = h })

-- the same, by its size
pub small_survives : (z : ℤ) → nat_abs z < 2 ^ 31 → passed z ≡ z
small_survives z h = survives (lt_of_le_of_lt (mag_le z) h)
