-- What each call leaves and answers, as a function of the session and the call, refusals included. Assumes nothing.
use Rattle.std.specs.Prelude.{true, false, map, ℕ, Some, None, Result, Ok, Err}
use Rattle.causes.specs.declared.Cause.{Cause}
use Rattle.causes.specs.Causes as causes
use Rattle.causes.specs.Causes.{cause_number, Numbered}
use Rattle.causes.specs.Checks.{first_of, unless}
use Rattle.cie.specs.declared.Colour.{Colour}
use Rattle.cie.specs.Lights.{light_tables}
use Rattle.conditions.specs.declared.Conditions.{Conditions}
use Rattle.conditions.specs.Checks.{table_checks, light_checks}
use Rattle.conditions.specs.Conditions.{conditions_of, no_conditions}
use Rattle.conditions.specs.Measure.{colour_under}
use Rattle.tallies.specs.declared.Tallies.{Tallies}
use Rattle.tallies.specs.declared.TableTallies.{TableTallies}
use Rattle.tallies.specs.Tallies.{no_sets}
use Rattle.rules.specs.declared.Units.{Units}
use Rattle.rules.specs.Standing.{tolerance_checks}
use Rattle.rules.specs.Rules.{tolerance_of}
use Rattle.trials.specs.declared.Standing.{Standing}
use Rattle.trials.specs.Outcome.{TrialOutcome}
use Rattle.trials.specs.Tried.{trial_outcome, tried_by, tallies_after, ValidStanding}
use Rattle.looks.specs.Look.{Sight}
use Rattle.looks.specs.Looked.{seen_answer, looked_by}
use Rattle.session.specs.declared.Answer.{Answer}
use Rattle.session.specs.declared.Answer.TheVariants.{Accepted, Coloured, Tried, Counted, Seen}
use Rattle.session.specs.declared.Session.{Session}
use Rattle.session.specs.declared.Served.{Served}
use Rattle.session.specs.Call.{Call, open_tables, open_light, set_standard, set_tolerance, trial, report, look}
use Rattle.session.specs.Outcome.{VerdictCounts, Outcome, accepted, coloured, tried, counted, seen, refused}
use Rattle.session.specs.CallChecks.{standard_checks}

-- what a call answers, in the paper's numbers and values
abbrev pub counts_of : Tallies → VerdictCounts
counts_of t = record { passed = t.passed; failed = t.failed; line = t.line }

abbrev pub outcome_of : Result Answer Cause → Outcome
outcome_of (Ok Accepted) = accepted
outcome_of (Ok (Coloured colour)) = coloured colour
outcome_of (Ok (Tried t)) = tried (trial_outcome t)
outcome_of (Ok (Counted r)) = counted (record { sets = map counts_of r.tallies })
outcome_of (Ok (Seen answer)) = seen (seen_answer answer)
outcome_of (Err cause) = refused (cause_number cause)

-- the session that a call leaves, and its outcome
pub record Reply : Type 0 where
  pub session : Session
  pub outcome : Outcome

abbrev pub shown : Served → Reply
shown r = record { session = r.session; outcome = outcome_of r.answer }

-- "Fresh: nothing held, tallies 0."
abbrev pub fresh_session : Session
fresh_session = record { conditions = no_conditions; opened = false; standard = None; tolerance = None; tallies = record { sets = no_sets } }

-- "A refusal returns its number only; session and buffers remain as before."
abbrev pub refused_by : Session → Cause → Reply
refused_by s cause = record { session = s; outcome = refused (cause_number cause) }

-- "Accepted: new conditions, and the standard is dropped. Tolerance and tallies remain."
abbrev pub opened_by : Session → Conditions → Reply
opened_by s c =
    record {
      session = record { conditions = c; opened = true; standard = None; tolerance = s.tolerance; tallies = s.tallies };
      outcome = accepted;
    }

-- "Standard (spectrum) .. Returns its colour."
abbrev pub standard_by : Session → Colour → Reply
standard_by s colour =
    record {
      session = record { conditions = s.conditions; opened = s.opened; standard = Some colour; tolerance = s.tolerance; tallies = s.tallies };
      outcome = coloured colour;
    }

abbrev pub tolerance_by : Session → Units → Reply
tolerance_by s t =
    record {
      session = record { conditions = s.conditions; opened = s.opened; standard = s.standard; tolerance = Some t; tallies = s.tallies };
      outcome = accepted;
    }

-- the reply by an answer in the paper's numbers: what follows from its value, or the refusal
abbrev pub replied : {A : Type 0} → Session → (A → Reply) → Numbered A → Reply
replied s follow (causes.accepted a) = follow a
replied s follow (causes.refused cause) = record { session = s; outcome = refused cause }

-- what a session holds beside its conditions
abbrev pub standing_of : Session → Standing
standing_of s = record { opened = s.opened; standard = s.standard; tolerance = s.tolerance; tallies = s.tallies }

abbrev pub with_tallies : Session → TableTallies → Session
with_tallies s tallies = record { conditions = s.conditions; opened = s.opened; standard = s.standard; tolerance = s.tolerance; tallies = tallies }

-- what a trial finds, as its call's outcome
abbrev pub found_outcome : Numbered TrialOutcome → Outcome
found_outcome (causes.accepted t) = tried t
found_outcome (causes.refused cause) = refused cause

-- a trial moves its tally alone, and answers what it finds
abbrev pub counted_by : Session → ℕ → Numbered TrialOutcome → Reply
counted_by s table found = record { session = with_tallies s (tallies_after s.tallies table found); outcome = found_outcome found }

-- "the session itself doesn't move", whatever a look answers
abbrev pub seen_by : Session → Numbered Sight → Reply
seen_by s answer = record { session = s; outcome = seen answer }

abbrev pub served : Session → Call → Reply
served s (open_tables t) = unless (first_of (table_checks t)) (refused_by s) (opened_by s (conditions_of t))
served s (open_light light spacing) =
    unless (first_of (light_checks light spacing)) (refused_by s) (opened_by s (conditions_of (light_tables light spacing)))
served s (set_standard readings) =
    unless (first_of (standard_checks s.opened s.conditions.rows readings)) (refused_by s) (standard_by s (colour_under s.conditions readings))
served s (set_tolerance space amount) = unless (first_of (tolerance_checks amount)) (refused_by s) (tolerance_by s (tolerance_of space amount))
served s (trial table readings) = counted_by s table (tried_by s.conditions (standing_of s) table readings)
served s report = record { session = s; outcome = counted (record { sets = map counts_of s.tallies.sets }) }
served s (look k) = seen_by s (looked_by s.conditions (standing_of s) k)

-- the one invariant: what holds of "a fresh one, or one that an earlier call returned or left"
pub record Valid (s : Session) : Type 0 where
  pub standing : ValidStanding s.conditions (standing_of s)
