-- A spectrum with a reading above the frame's limit does not pass its checks, and what is answered with a colour has passed them. Assumes nothing.
use mathlib.Core.Path.{◌≡◌, refl, ap, ◌∙◌}
use mathlib.Core.Bool.{true, not}
use mathlib.Core.List.{List}
use Prim.Native.Nat.{ℕ}
use native.Mathlib.Omega.{arith}
use borrow.Author.Tests.{eq-eqb}
use lib.ListN.{length}
use Rattle.causes.specs.declared.Cause.{Cause}
use Rattle.causes.specs.declared.Cause.TheVariants.{OverBright}
use Rattle.causes.specs.Causes.{Numbered, accepted, refusal, mapped}
use Rattle.causes.proofs.Checks.{fires, passes, clear_at, either}
use Rattle.cie.specs.declared.Colour.{Colour}
use Rattle.cie.specs.Scales.{any_above, frame_limit}
use Rattle.trials.specs.Outcome.{TrialOutcome}
use Rattle.trials.specs.Tried.{tried_by}
use Rattle.looks.specs.Look.{previewed}
use Rattle.session.specs.declared.Session.{Session}
use Rattle.session.specs.Call.{Call, set_standard}
use Rattle.session.specs.Outcome.{Outcome, coloured, tried, seen}
use Rattle.session.specs.Ledger.{held}
use Rattle.session.specs.Served.{Reply, refused_by, standing_of, found_outcome, served}
use Rattle.claims.specs.Brighter.{ColourAnswered, by_standard, by_trial, by_preview}
use Rattle.claims.specs.Stopped.{RefusedFrom, BrightStopped}
use Rattle.claims.proofs.Kept.{Readable}

module _ (s : Session) (readings : List ℕ) where
  -- a trial refuses, or the spectrum has passed its checks
  found_passed : (Q : Numbered TrialOutcome → Type 0) → ((c : Cause) → Q (refusal c)) → ((a : Numbered TrialOutcome) → Readable (held readings) → Q a) →
      (table : ℕ) → Q (tried_by s.conditions (standing_of s) table readings)
  unfolding tried_by
  found_passed Q h k table = either _ Q _ _ h (λ e. k _ (clear_at _ e 6))

  coloured_passed : {p : Colour} {c : Call} {o : Outcome} → ColourAnswered readings p c o → o ≡ (served s c).outcome → Readable (held readings)
  coloured_passed {p} by_standard =
      either _ (λ (q : Reply). coloured p ≡ q.outcome → Readable (held readings)) _ _ (λ c e. cc) (λ e k. clear_at _ e 2)
  coloured_passed (by_trial {table} {t}) =
      found_passed (λ (a : Numbered TrialOutcome). tried t ≡ found_outcome a → Readable (held readings)) (λ c e. cc) (λ a r e. r) table
  coloured_passed (by_preview {table} {t}) =
      found_passed (λ (a : Numbered TrialOutcome). seen (accepted (previewed t)) ≡ seen (mapped previewed a) → Readable (held readings))
      (λ c e. cc) (λ a r e. r) table

  refused_above : any_above frame_limit readings ≡ true → RefusedFrom s (served s (set_standard readings))
  refused_above h =
      either _ (RefusedFrom s) _ _ (λ c. record { cause = c; told = refl })
      (λ e.
      let r : Readable (held readings) = clear_at _ e 2 in
      let z : ◌≡◌ {A = ℕ} 0 1 = cc in
      absurd (omega arith))

  over_bright_alone : s.opened ≡ true → length readings ≡ s.conditions.rows → any_above frame_limit readings ≡ true →
      served s (set_standard readings) ≡ refused_by s OverBright
  over_bright_alone opened rows h =
      passes _ _ _ _ _ (ap not opened) ∙ passes _ _ _ _ _ (ap not (eq-eqb _ _ rows)) ∙ fires _ _ _ _ _ h

pub bright_stopped : BrightStopped
bright_stopped = record { accepted = λ a. coloured_passed _ _ a.answered refl; no_standard = refused_above; over_bright = over_bright_alone }
