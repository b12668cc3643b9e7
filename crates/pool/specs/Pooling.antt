-- Document 02, "Several spots, one reading": what a pooling at a spacing answers and what it leaves, refusals included. Assumes nothing.
use Rattle.std.specs.Prelude.{ℕ, ◌*◌, not, List, [], ◌∷◌, length, eqb, Result, Ok, Err}
use Rattle.causes.specs.declared.Cause.{Cause}
use Rattle.causes.specs.declared.Cause.TheVariants.{ShortTable, OverBright, UnknownSpacing, SpotCount}
use Rattle.causes.specs.Causes.{Numbered, accepted, refusal}
use Rattle.causes.specs.Checks.{Check, check, first_of, unless, numbered}
use Rattle.cie.specs.Scales.{any_above, frame_limit}
use Rattle.cie.specs.Spacing.{unknown_spacing, rows_at}
use Rattle.pool.specs.Spots.{off_count, spots_of, pooled_spectrum}

-- what a pooling answers, in the paper's numbers
abbrev pub pool_answer : Result (Unit {0}) Cause → Numbered ℕ
pool_answer (Ok done) = accepted 0
pool_answer (Err cause) = refusal cause

-- "After 17 the checks run: spot count, then 1 for either slice, then 2."; "Readings obey the 12,000 limit"
unfoldable pub pool_checks : ℕ → ℕ → List ℕ → ℕ → List Check
pool_checks spacing count readings places =
    check (unknown_spacing spacing) UnknownSpacing
    ∷ check (off_count count) SpotCount
    ∷ check (not (eqb (length readings) (rows_at spacing * count))) ShortTable
    ∷ check (not (eqb places (rows_at spacing))) ShortTable
    ∷ check (any_above frame_limit readings) OverBright
    ∷ []

unfoldable pub pooled : ℕ → ℕ → List ℕ → ℕ → Numbered ℕ
pooled spacing count readings places = numbered (first_of (pool_checks spacing count readings places)) 0

-- the spots that the readings are, at a spacing
abbrev pub spots_at : ℕ → ℕ → List ℕ → List (List ℕ)
spots_at spacing count readings = spots_of (rows_at spacing) count readings

-- "writes one pooled spectrum"
unfoldable pub places_after_pool : ℕ → ℕ → List ℕ → List ℕ → List ℕ
places_after_pool spacing count readings places =
    unless (first_of (pool_checks spacing count readings (length places))) (λ _. places)
    (pooled_spectrum (rows_at spacing) (spots_at spacing count readings))
