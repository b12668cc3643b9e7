-- Document 02, "Brighter is never darker": what is claimed of the colours that a session answers. Nothing of the kind is claimed for a, b, u or v.
-- Assumes nothing.
use Rattle.std.specs.Prelude.{◌≡◌, List, ℕ}
use Rattle.std.specs.Prelude.{Ok}
use Rattle.causes.specs.Causes as causes
use Rattle.causes.specs.Checks.{first_of}
use Rattle.cie.specs.declared.Colour.{Colour}
use Rattle.cie.specs.Spacing.{rows_at}
use Rattle.cie.specs.Scales.{frame_limit}
use Rattle.cie.specs.Sums.{Tables}
use Rattle.cie.specs.Colour.{colour_at}
use Rattle.cie.specs.Brighter.{NoneHigher, NoBrighter}
use Rattle.conditions.specs.Checks.{table_checks, spectrum_checks}
use Rattle.trials.specs.Outcome.{TrialOutcome}
use Rattle.looks.specs.Look.{preview, previewed}
use Rattle.session.specs.Call.{Call, set_standard, trial, look}
use Rattle.session.specs.Outcome.{Outcome, coloured, tried, seen}
use Rattle.session.specs.Ledger.{held, empty_ledger, ledger_after}
use Rattle.session.specs.Served.{served, fresh_session}
use Rattle.claims.specs.Claim.{session_after}

-- a call that gives these readings and is answered with this colour: a standard, a trial or a preview
pub data ColourAnswered (readings : List ℕ) : Colour → Call → Outcome → Type 0 where
  by_standard : {p : Colour} → ColourAnswered readings p (set_standard readings) (coloured p)
  by_trial : {table : ℕ} {t : TrialOutcome} → ColourAnswered readings t.colour (trial table readings) (tried t)
  by_preview : {table : ℕ} {t : TrialOutcome} → ColourAnswered readings t.colour (look (preview table readings)) (seen (causes.accepted (previewed t)))

-- an accepted spectrum: after some calls from a fresh session, which leave these tables in force, it is answered with this colour
pub record AcceptedSpectrum (t : Tables) (readings : List ℕ) (colour : Colour) : Type 0 where
  pub before : List Call
  pub in_force : (ledger_after empty_ledger before).conditions ≡ held t
  pub call : Call
  pub answered : ColourAnswered readings colour call (served (session_after fresh_session before) call).outcome

pub record BrighterNeverDarker : Type 0 where
  -- "under the same conditions, of two accepted spectra where no reading of the first is above that of the second, the first has no larger L. Also
  -- no larger tristimulus value."
  pub told : (t : Tables) {first second : List ℕ} {p q : Colour} →
      AcceptedSpectrum t first p → AcceptedSpectrum t second q → NoneHigher first second → NoBrighter p q
  -- it speaks of every spectrum that passes its checks, under all tables that pass theirs
  pub of_every : (t : Tables) (readings : List ℕ) → first_of (table_checks t) ≡ Ok tt →
      first_of (spectrum_checks frame_limit (rows_at t.spacing) readings) ≡ Ok tt → AcceptedSpectrum t readings (colour_at t readings)
