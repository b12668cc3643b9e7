-- What a trial finds, by what stands and by what measuring answers: its checks are those of what must stand, then those of the spectrum.
-- Assumes nothing.
use mathlib.Core.Path.{◌≡◌, sym, ◌∙◌, ap}
use mathlib.Core.List.{List, ◌++◌}
use Prim.Native.Nat.{ℕ}
use Rattle.causes.specs.declared.Cause.{Cause}
use Rattle.causes.specs.Checks.{Checked}
use Rattle.std.specs.Prelude.{Option, Result, Ok, Err}
use Rattle.causes.specs.Causes.{Numbered, refused, refusal, answer_of}
use Rattle.causes.specs.Checks.{Check, first_of, unless}
use Rattle.causes.proofs.Checks.{refuses, accepts, first_because, first_clear}
use Rattle.cie.specs.declared.Colour.{Colour}
use Rattle.cie.specs.declared.Sums.{Sums}
use Rattle.cie.specs.Scales.{frame_limit}
use Rattle.cie.specs.Colour.{colour_of}
use Rattle.conditions.specs.declared.Conditions.{Conditions}
use Rattle.conditions.specs.Checks.{spectrum_checks}
use Rattle.conditions.specs.Measure.{measured_by}
use Rattle.conditions.proofs.Measuring.{measured_refused, measured_whole}
use Rattle.tallies.specs.ByTable.{is_full}
use Rattle.tallies.specs.Tallies.{tally_sum, set_of}
use Rattle.rules.specs.declared.Judgement.{Judgement}
use Rattle.rules.specs.Standing.{standing_checks}
use Rattle.rules.specs.Rules.{has_standard, has_tolerance, judged_of}
use Rattle.trials.specs.declared.Standing.{Standing}
use Rattle.trials.specs.Outcome.{TrialOutcome}
use Rattle.trials.specs.Tried.{judged_as, tried_by}

-- what must stand before a trial's spectrum is looked at
abbrev standing_in : Standing → ℕ → List Check
standing_in s table =
    standing_checks table s.opened (has_standard s.standard) (has_tolerance s.tolerance) (is_full (tally_sum (set_of s.tallies.sets table)))

abbrev pub Stands : Standing → ℕ → Type 0
Stands s table = first_of (standing_in s table) ≡ Ok tt

module _ (c : Conditions) (s : Standing) (table : ℕ) (readings : List ℕ) where
  -- the checks of the spectrum
  abbrev measuring : List Check
  measuring = spectrum_checks frame_limit c.rows readings

  -- where something does not stand
  pub tried_fallen : {cause : Cause} → first_of (standing_in s table) ≡ Err cause → tried_by c s table readings ≡ refusal cause
  unfolding tried_by
  tried_fallen h = refuses _ _ _ _ (first_because (standing_in s table) measuring _ h)

  -- where all stands, the spectrum's checks decide
  past : Stands s table → (a : Numbered TrialOutcome) →
      unless (first_of (standing_in s table ++ measuring)) refusal a ≡ unless (first_of measuring) refusal a
  past stands a = ap (λ (t : Checked). unless t refusal a) (first_clear (standing_in s table) measuring stands)

  module _ (stands : Stands s table) {m : Result Sums Cause} (e : answer_of m ≡ measured_by frame_limit c.rows c.x c.y c.z readings) where
    pub tried_refused : {cause : Cause} → m ≡ Err cause → tried_by c s table readings ≡ refusal cause
    unfolding tried_by
    tried_refused told =
        let w = measured_refused frame_limit c.rows _ _ _ _ e told in
        past stands _ ∙ refuses _ _ _ _ w.1 ∙ ap (λ (n : ℕ). refused n) w.2

    pub tried_whole : {sums : Sums} {colour : Colour} {j : Option Judgement} → m ≡ Ok sums → colour ≡ colour_of c.white.sums sums →
        j ≡ judged_of s.standard s.tolerance colour → tried_by c s table readings ≡ judged_as colour j
    unfolding tried_by
    tried_whole {sums} {colour} told k h =
        let w = measured_whole frame_limit c.rows _ _ _ _ e told in
        past stands _
        ∙ accepts _ _ _ w.0
        ∙ ap (λ (x : Colour). judged_as x (judged_of s.standard s.tolerance x)) (ap (colour_of c.white.sums) (sym w.1) ∙ sym k)
        ∙ ap (judged_as colour) (sym h)
