-- Document 01, "Session", and document 02, "Tallies by inspection table": the checks of a trial, in their order. Assumes nothing.
use Rattle.std.specs.Prelude.{Bool, List, ◌++◌, ℕ}
use Rattle.causes.specs.Checks.{Check}
use Rattle.cie.specs.Scales.{frame_limit}
use Rattle.conditions.specs.Checks.{spectrum_checks}
use Rattle.rules.specs.Standing.{standing_checks}

-- 18 "checked first in a trial or preview"; "Trial (spectrum): 6, 7, 8, 10, 1, 2.", with the rows of the spacing in force and the frame's limit
abbrev pub trial_checks : ℕ → Bool → Bool → Bool → Bool → ℕ → List ℕ → List Check
trial_checks table opened standard tolerance full rows readings =
    standing_checks table opened standard tolerance full ++ spectrum_checks frame_limit rows readings
