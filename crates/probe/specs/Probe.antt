-- What the calls from C answer, as numbers, and the list of calls behind a run of trials. Assumes nothing.
use Rattle.std.specs.Prelude.{ℕ, zero, suc, ◌+◌, ◌^◌, List, Result, Ok, Err}
use Rattle.causes.specs.Causes as causes
use Rattle.causes.specs.Causes.{cause_number, Numbered}
use Rattle.causes.specs.declared.Cause.{Cause}
use Rattle.cie.specs.declared.Space.TheVariants.{Cielab}
use Rattle.cie.specs.Spacing.{fine_spacing}
use Rattle.tallies.specs.ByTable.{at_table}
use Rattle.session.specs.declared.Session.{Session}
use Rattle.session.specs.Call.{Call, open_light, set_standard, set_tolerance, trial, report}
use Rattle.session.specs.Outcome.{Outcome, accepted, coloured, tried, counted, seen, refused}
use Rattle.session.specs.Ledger.{no_counts}
use Rattle.session.specs.Served.{served, fresh_session}

-- the count, or 2^32 and the cause's number
abbrev pub count_code : Numbered ℕ → ℕ
count_code (causes.accepted n) = n
count_code (causes.refused cause) = 2 ^ 32 + cause

-- 0, or the cause's number
abbrev pub cause_code : Numbered ℕ → ℕ
cause_code (causes.accepted n) = 0
cause_code (causes.refused cause) = cause

-- the same of a call that only accepts
abbrev pub done_code : Result Unit Cause → ℕ
done_code (Ok done) = 0
done_code (Err cause) = cause_number cause

-- the session that a call leaves
unfoldable pub after : Session → Call → Session
after s c = (served s c).session

-- a fresh session, then the light at 5 nm, the standard and a tolerance in CIELAB
unfoldable pub session_for : ℕ → List ℕ → ℕ → Session
session_for light standard amount =
    after (after (after fresh_session (open_light light fine_spacing)) (set_standard standard)) (set_tolerance Cielab amount)

-- the inspection table that a run of trials names
abbrev pub only_table : ℕ
only_table = 1

-- the session after a number of trials of one spectrum
unfoldable pub after_trials : Session → List ℕ → ℕ → Session
after_trials s readings zero = s
after_trials s readings (suc n) = after_trials (after s (trial only_table readings)) readings n

-- the passes that a report counts for that table
abbrev pub passed_in : Outcome → ℕ
passed_in accepted = 0
passed_in (coloured colour) = 0
passed_in (tried t) = 0
passed_in (counted r) = (at_table no_counts r.sets only_table).passed
passed_in (seen answer) = 0
passed_in (refused cause) = 0

-- the passes among a number of trials of one spectrum, as the report after them counts
unfoldable pub pass_count : ℕ → List ℕ → List ℕ → ℕ → ℕ → ℕ
pass_count light standard readings amount count = passed_in (served (after_trials (session_for light standard amount) readings count) report).outcome
