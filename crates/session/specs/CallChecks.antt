-- Document 01, "Session": the checks of a standard, in their order. The ledger and the program read the same lists: this one, a trial's
-- (trials/specs/Checks.antt), a search's (book_search/specs/Searching.antt), a tolerance's (rules/specs/Standing.antt) and those of tables and
-- lights (conditions/specs/Checks.antt).
-- Assumes nothing.
use Rattle.std.specs.Prelude.{Bool, not, List, ◌∷◌, ℕ}
use Rattle.causes.specs.declared.Cause.TheVariants.{NoConditions}
use Rattle.causes.specs.Checks.{Check, check}
use Rattle.cie.specs.Scales.{frame_limit}
use Rattle.conditions.specs.Checks.{spectrum_checks}

-- "Standard (spectrum): 6, 1, 2.", with the rows of the spacing in force and the frame's limit
abbrev pub standard_checks : Bool → ℕ → List ℕ → List Check
standard_checks opened rows readings = check (not opened) NoConditions ∷ spectrum_checks frame_limit rows readings
