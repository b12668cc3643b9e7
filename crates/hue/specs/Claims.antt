-- What is claimed of chroma and hue differences. Assumes nothing.
use Rattle.std.specs.Prelude.{◌≡◌, neg_ℤ, nat_abs}
use Rattle.cie.specs.declared.Colour.{Colour}
use Rattle.hue.specs.declared.Shift.{Shift}
use Rattle.hue.specs.declared.plane.PlaneColour.{PlaneColour}
use Rattle.hue.specs.Hue.{chroma_difference, hue_difference, shift_of}

-- in each space the chroma difference is the other's with its sign changed, and the hue differences have the same size
pub record Opposite (d e : Shift) : Type 0 where
  pub cab : e.dcab.0 ≡ neg_ℤ d.dcab.0
  pub hab : nat_abs e.dhab.0 ≡ nat_abs d.dhab.0
  pub cuv : e.dcuv.0 ≡ neg_ℤ d.dcuv.0
  pub huv : nat_abs e.dhuv.0 ≡ nat_abs d.dhuv.0

-- exchanging standard and trial changes the sign of the chroma difference and keeps the size of the hue difference: in any plane, and so of any two
-- colours in each space
pub record Exchanged : Type 0 where
  pub chroma : (standard trial : PlaneColour) → chroma_difference trial standard ≡ neg_ℤ (chroma_difference standard trial)
  pub hue : (standard trial : PlaneColour) → nat_abs (hue_difference trial standard) ≡ nat_abs (hue_difference standard trial)
  pub colours : (standard trial : Colour) → Opposite (shift_of standard trial) (shift_of trial standard)
