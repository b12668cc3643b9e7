-- Document 01, "Session", and document 02, "Tallies by inspection table": the checks of a trial before its spectrum is looked at, and that of a
-- tolerance, over Booleans and numbers. The ledger and the program read the same lists. Assumes nothing.
use Rattle.std.specs.Prelude.{Bool, not, List, [], ◌∷◌, ℕ, ltb}
use Rattle.causes.specs.declared.Cause.TheVariants.{NoConditions, NoStandard, NoTolerance, ToleranceOffScale, SessionFull, NoSuchTable}
use Rattle.causes.specs.Checks.{Check, check}
use Rattle.tallies.specs.ByTable.{is_table}

-- "18 'no such table', number outside 1 to 8, checked first in a trial or preview", then the first four of "Trial (spectrum): 6, 7, 8, 10, 1, 2.",
-- where "session full" is said of the named table
abbrev pub standing_checks : ℕ → Bool → Bool → Bool → Bool → List Check
standing_checks table opened standard tolerance full =
    check (not (is_table table)) NoSuchTable
    ∷ check (not opened) NoConditions
    ∷ check (not standard) NoStandard
    ∷ check (not tolerance) NoTolerance
    ∷ check full SessionFull
    ∷ []

-- "The tolerance is none, or an amount in one of the two spaces, 0 to 1,000,000"
abbrev pub tolerance_limit : ℕ
tolerance_limit = 1000000

-- "Tolerance (space, amount): 9."
abbrev pub tolerance_checks : ℕ → List Check
tolerance_checks amount = check (ltb tolerance_limit amount) ToleranceOffScale ∷ []
