-- Document 02, "Bright readings stopped at the frame": what is claimed of the spectra that a session is given. Assumes nothing.
use Rattle.std.specs.Prelude.{◌≡◌, true, false, List, ℕ, length}
use Rattle.causes.specs.declared.Cause.{Cause}
use Rattle.causes.specs.declared.Cause.TheVariants.{OverBright}
use Rattle.cie.specs.declared.Colour.{Colour}
use Rattle.cie.specs.Scales.{any_above, frame_limit}
use Rattle.cie.specs.Sums.{Tables}
use Rattle.session.specs.declared.Session.{Session}
use Rattle.session.specs.Call.{set_standard}
use Rattle.session.specs.Served.{Reply, refused_by, served}
use Rattle.claims.specs.Brighter.{AcceptedSpectrum}

-- a refusal, and the session as it was
pub record RefusedFrom (s : Session) (r : Reply) : Type 0 where
  pub cause : Cause
  pub told : r ≡ refused_by s cause

pub record BrightStopped : Type 0 where
  -- "Standards, trials, previews .. now meet 'over-bright' above 12,000.": what one of them answers with a colour has no reading above the frame's
  -- limit, after any calls and under any conditions
  pub accepted : {t : Tables} {readings : List ℕ} {colour : Colour} → AcceptedSpectrum t readings colour → any_above frame_limit readings ≡ false
  -- "such a shade can't be set as a standard": in every session, from whatever book it was read
  pub no_standard : (s : Session) (readings : List ℕ) → any_above frame_limit readings ≡ true → RefusedFrom s (served s (set_standard readings))
  -- and as over-bright, where conditions are opened and it has their rows
  pub over_bright : (s : Session) (readings : List ℕ) → s.opened ≡ true → length readings ≡ s.conditions.rows →
      any_above frame_limit readings ≡ true → served s (set_standard readings) ≡ refused_by s OverBright
