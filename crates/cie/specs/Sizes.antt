-- How large the values of a colour are, for sums up to twice those of an accepted white: each fits 32 bits. Assumes nothing.
use Rattle.std.specs.Prelude.{◌≡◌, Some, ◌≤◌, ◌<◌, nat_abs}
use Rattle.cie.specs.declared.Chromaticity.{Chromaticity}
use Rattle.cie.specs.declared.Colour.{Colour}

pub record Sized (c : Colour) : Type 0 where
  pub tristimulus_x : c.tristimulus.x ≤ 20000000
  pub tristimulus_y : c.tristimulus.y ≤ 2000000
  pub tristimulus_z : c.tristimulus.z ≤ 20000000
  pub chromaticity : (p : Chromaticity) → c.chromaticity ≡ Some p → (p.x ≤ 1000000) × (p.y ≤ 1000000)
  pub l : c.l ≤ 1301508
  pub a : nat_abs c.a ≤ 6299605
  pub b : nat_abs c.b ≤ 2519842
  pub u : nat_abs c.u ≤ 67678416
  pub v : nat_abs c.v ≤ 10412064
  pub cab : c.cab < 6800000
  pub cuv : c.cuv < 68500000
