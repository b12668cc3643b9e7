-- What a trial for a table finds under conditions, by what stands beside them, refusals included: the one working out of a trial and of a preview.
-- Assumes nothing.
use Rattle.std.specs.Prelude.{List, ℕ, Option, None, Some, Result, Ok, Err}
use Rattle.causes.specs.declared.Cause.{Cause}
use Rattle.causes.specs.declared.Cause.TheVariants.{NoTolerance}
use Rattle.causes.specs.Causes.{Numbered, accepted, refused, refusal}
use Rattle.causes.specs.Checks.{first_of, unless}
use Rattle.cie.specs.declared.Colour.{Colour}
use Rattle.conditions.specs.declared.Conditions.{Conditions}
use Rattle.conditions.specs.Conditions.{Sound}
use Rattle.conditions.specs.Measure.{colour_under}
use Rattle.rules.specs.declared.Judgement.{Judgement}
use Rattle.rules.specs.declared.Units.{Units}
use Rattle.tallies.specs.declared.TableTallies.{TableTallies}
use Rattle.tallies.specs.ByTable.{is_full}
use Rattle.tallies.specs.Tallies.{tally_sum, set_of, tallied_for, Within}
use Rattle.rules.specs.Rules.{has_tolerance, has_standard, SizedStandard, space_of, units_of, judged_of}
use Rattle.trials.specs.declared.Standing.{Standing}
use Rattle.trials.specs.declared.TrialAnswer.{TrialAnswer}
use Rattle.trials.specs.Outcome.{Amount, TrialOutcome}
use Rattle.trials.specs.Checks.{trial_checks}

-- what a trial answers, in the paper's numbers and values
abbrev pub amount_of : Units → Amount
amount_of e = record { space = space_of e; units = units_of e }

abbrev pub trial_outcome : TrialAnswer → TrialOutcome
trial_outcome t = record { colour = t.colour; e = amount_of t.difference; verdict = t.verdict }

abbrev pub tried_answer : Result TrialAnswer Cause → Numbered TrialOutcome
tried_answer (Ok t) = accepted (trial_outcome t)
tried_answer (Err cause) = refusal cause

-- what a judgement answers; past the checks there is a standard and a tolerance to judge by
abbrev pub judged_as : Colour → Option Judgement → Numbered TrialOutcome
judged_as colour None = refusal NoTolerance
judged_as colour (Some j) = accepted (record { colour = colour; e = amount_of j.e; verdict = j.verdict })

-- 18; "Trial (spectrum): 6, 7, 8, 10, 1, 2. Returns colour, E in the tolerance's space, and the verdict."
unfoldable pub tried_by : Conditions → Standing → ℕ → List ℕ → Numbered TrialOutcome
tried_by c s table readings =
    unless
    (let full = is_full (tally_sum (set_of s.tallies.sets table)) in
    first_of (trial_checks table s.opened (has_standard s.standard) (has_tolerance s.tolerance) full c.rows readings))
    refusal
    (let colour = colour_under c readings in judged_as colour (judged_of s.standard s.tolerance colour))

-- "Its tally rises by 1.": of a trial that returns a verdict, the verdict's, for the table that the trial names
abbrev pub tallies_after : TableTallies → ℕ → Numbered TrialOutcome → TableTallies
tallies_after tallies table (accepted t) = record { sets = tallied_for tallies.sets table t.verdict }
tallies_after tallies table (refused cause) = tallies

-- what holds of a session that is fresh, or that an earlier call returned or left
pub record ValidStanding (c : Conditions) (s : Standing) : Type 0 where
  pub sound : Sound c
  pub standard : SizedStandard s.standard
  pub tallies : Within s.tallies.sets
