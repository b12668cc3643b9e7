-- The built-in tables as a program reads them: 81 rows, of which a spacing takes every one or every second. Assumes nothing.
use Rattle.std.specs.Prelude.{cond, List, ℕ, eqb}
use Rattle.cie.specs.Spacing.{coarse_spacing, most_rows}
use Rattle.cie.specs.Scales.{illuminant_limit, column_limit}
use Rattle.cie.specs.Sums.{Tables, tables_of}
use Rattle.cie.specs.Tables.{illuminant_a, illuminant_d65}
use Rattle.cie.specs.Lights.{light_a, table_at}
use Rattle.conditions.specs.Checks.{Fits}

-- "light 1 is A, light 2 is D65": the illuminant of a light that is 1 or 2
abbrev pub illuminant_of : ℕ → List ℕ
illuminant_of light = cond (eqb light light_a) illuminant_a illuminant_d65

-- "Built-in lights use every second row at 10 nm.": how many rows of a table lie between two of the spacing's
unfoldable pub stride_at : ℕ → ℕ
stride_at spacing = cond (eqb spacing coarse_spacing) 2 1

-- tables of 81 rows each, within their limits
pub record Whole (illuminant x y z : List ℕ) : Type 0 where
  pub illuminant_fits : Fits most_rows illuminant_limit illuminant
  pub x_fits : Fits most_rows column_limit x
  pub y_fits : Fits most_rows column_limit y
  pub z_fits : Fits most_rows column_limit z

-- such tables at the rows of a spacing
abbrev pub tables_at : ℕ → (illuminant x y z : List ℕ) → Tables
tables_at spacing illuminant x y z = tables_of spacing (table_at spacing illuminant) (table_at spacing x) (table_at spacing y) (table_at spacing z)
