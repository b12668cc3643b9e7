-- Document 02, "Brighter is never darker": two spectra by their readings, and two colours by what is claimed of them. Nothing of the kind is
-- claimed for a, b, u or v. Assumes nothing.
use Rattle.std.specs.Prelude.{List, ℕ, ◌≤◌, get_or}
use Rattle.cie.specs.declared.Colour.{Colour}

-- "no reading of the first is above that of the second", row by row; under the same conditions both have the same rows, and past these 0 stands for either
abbrev pub NoneHigher : List ℕ → List ℕ → Type 0
NoneHigher first second = (row : ℕ) → get_or first row 0 ≤ get_or second row 0

-- "the first has no larger L. Also no larger tristimulus value."
pub record NoBrighter (first second : Colour) : Type 0 where
  pub l : first.l ≤ second.l
  pub x : first.tristimulus.x ≤ second.tristimulus.x
  pub y : first.tristimulus.y ≤ second.tristimulus.y
  pub z : first.tristimulus.z ≤ second.tristimulus.z
