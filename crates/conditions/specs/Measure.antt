-- Measuring a spectrum under conditions: its checks, then the sums, then the colour of the sums. Assumes nothing.
use Rattle.std.specs.Prelude.{List, ℕ}
use Rattle.causes.specs.Causes.{Numbered}
use Rattle.causes.specs.Checks.{first_of, numbered}
use Rattle.cie.specs.declared.Sums.{Sums}
use Rattle.cie.specs.declared.Colour.{Colour}
use Rattle.cie.specs.Colour.{colour_of}
use Rattle.conditions.specs.declared.Conditions.{Conditions}
use Rattle.conditions.specs.Weights.{dots}
use Rattle.conditions.specs.Checks.{spectrum_checks}

-- the sums by weights x, y, z, or the cause against readings under a limit that should have so many rows
unfoldable pub measured_by : ℕ → ℕ → List ℕ → List ℕ → List ℕ → List ℕ → Numbered Sums
measured_by limit rows x y z readings = numbered (first_of (spectrum_checks limit rows readings)) (dots x y z readings)

-- the colour of a spectrum under conditions
abbrev pub colour_under : Conditions → List ℕ → Colour
colour_under c readings = colour_of c.white.sums (dots c.x c.y c.z readings)
