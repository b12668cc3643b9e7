-- The checks of tables, lights and spectra, each list in the order of document 01, after document 02's 17. Assumes nothing.
use Rattle.std.specs.Prelude.{◌≡◌, Bool, false, not, ◌||◌, List, [], ◌∷◌, ℕ, eqb, length}
use Rattle.causes.specs.declared.Cause.TheVariants.{ShortTable, OverBright, OffScaleCondition, DarkWhite, LopsidedWhite, NoSuchLight, UnknownSpacing}
use Rattle.causes.specs.Checks.{Check, check}
use Rattle.cie.specs.Spacing.{unknown_spacing, rows_at}
use Rattle.cie.specs.Scales.{illuminant_limit, column_limit, any_above}
use Rattle.cie.specs.Sums.{Tables, white_of, dark, lopsided}
use Rattle.cie.specs.Lights.{unknown_light}

-- 1, short table: "a spectrum, illuminant or column isn't 81 long", or 41 at 10 nm: "the length of the spacing named to the call, or of the
-- spacing in force where a call names none"
abbrev pub short : ℕ → List ℕ → Bool
short rows table = not (eqb (length table) rows)

abbrev pub any_short : (rows : ℕ) (illuminant x y z : List ℕ) → Bool
any_short rows illuminant x y z = short rows illuminant || (short rows x || (short rows y || short rows z))

-- 3, off-scale condition: "an illuminant or observer entry above its limit"
abbrev pub any_off_scale : (illuminant x y z : List ℕ) → Bool
any_off_scale illuminant x y z = any_above illuminant_limit illuminant || (any_above column_limit x || (any_above column_limit y || any_above column_limit z))

-- a table by its rows and its limit
pub record Fits (rows limit : ℕ) (table : List ℕ) : Type 0 where
  pub length_is : length table ≡ rows
  pub scale : any_above limit table ≡ false

-- "Open (tables ..): checks 1, 3, 4, 5", and 17 "checked first in every call that names one", a spacing
abbrev pub table_checks : Tables → List Check
table_checks t =
    check (unknown_spacing t.spacing) UnknownSpacing
    ∷ check (any_short (rows_at t.spacing) t.illuminant t.x t.y t.z) ShortTable
    ∷ check (any_off_scale t.illuminant t.x t.y t.z) OffScaleCondition
    ∷ check (dark (white_of t)) DarkWhite
    ∷ check (lopsided (white_of t)) LopsidedWhite
    ∷ []

-- "for a built-in light 16 only"; 17 is first here too
abbrev pub light_checks : ℕ → ℕ → List Check
light_checks light spacing = check (unknown_spacing spacing) UnknownSpacing ∷ check (unknown_light light) NoSuchLight ∷ []

-- 1, short table, by the rows of the spacing; 2, over-bright: "a reading above" the limit that the call goes by
abbrev pub spectrum_checks : ℕ → ℕ → List ℕ → List Check
spectrum_checks limit rows readings = check (short rows readings) ShortTable ∷ check (any_above limit readings) OverBright ∷ []
