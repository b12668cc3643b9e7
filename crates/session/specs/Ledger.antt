-- Document 01, "Lists of calls": the ledger, "which is fed each call with its arguments other than the session, and nothing that the program
-- holds or answers". It stands on the paper alone. What it shares with the program are the lists of checks (CallChecks.antt names them), the tables
-- and formulas of `cie`, the rule of a search (`nearest_by` in book_search/specs/Shades.antt, given the colour that readings have), the inspection
-- tables' numbers and limit and a list with something for each of them (tallies/specs/ByTable.antt), the causes' numbers and the words of an answer:
-- no type and no rule that the program decides by. `session_of` in Stands.antt is the one map from the ledger to the program. Assumes nothing.
use Rattle.std.specs.Prelude.{Bool, true, false, List, [], ◌∷◌, ℕ, ◌+◌, replicate}
use Rattle.causes.specs.declared.Cause.{Cause}
use Rattle.causes.specs.declared.Cause.TheVariants.{NoConditions, NoStandard, NoTolerance}
use Rattle.causes.specs.Causes as causes
use Rattle.causes.specs.Causes.{cause_number, Numbered, refusal, mapped}
use Rattle.causes.specs.Checks.{first_of, unless}
use Rattle.cie.specs.declared.Colour.{Colour}
use Rattle.cie.specs.declared.Verdict.{Verdict}
use Rattle.cie.specs.declared.Verdict.TheVariants.{Pass, Fail, OnTheLine}
use Rattle.cie.specs.Spacing.{rows_at}
use Rattle.cie.specs.Sums.{Tables}
use Rattle.cie.specs.Lights.{light_tables}
use Rattle.cie.specs.Colour.{colour_at}
use Rattle.cie.specs.Verdict.{margin, verdict_of, difference}
use Rattle.conditions.specs.Checks.{table_checks, light_checks}
use Rattle.tallies.specs.ByTable.{table_count, is_full, at_table, changed_at}
use Rattle.rules.specs.Standing.{tolerance_checks}
use Rattle.trials.specs.Outcome.{Amount, TrialOutcome}
use Rattle.trials.specs.Checks.{trial_checks}
use Rattle.nearest.specs.Rule.{NearestOutcome}
use Rattle.book_search.specs.Shades.{nearest_by}
use Rattle.book_search.specs.Searching.{search_checks}
use Rattle.looks.specs.Look.{Look, preview, nearest, Sight, previewed, found}
use Rattle.session.specs.Call.{Call, open_tables, open_light, set_standard, set_tolerance, trial, report, look}
use Rattle.session.specs.Outcome.{VerdictCounts, Outcome, accepted, coloured, tried, counted, seen, refused}
use Rattle.session.specs.CallChecks.{standard_checks}

pub data Held (A : Type 0) : Type 0 where
  none : Held A
  held : A → Held A

abbrev pub is_held : {A : Type 0} → Held A → Bool
is_held none = false
is_held (held a) = true

-- "It has conditions, the standard's spectrum, a tolerance and three counts", which document 02 has "for each" table
pub record Ledger : Type 0 where
  pub conditions : Held Tables
  pub standard : Held (List ℕ)
  pub tolerance : Held Amount
  pub counts : List VerdictCounts

abbrev pub no_counts : VerdictCounts
no_counts = record { passed = 0; failed = 0; line = 0 }

-- "it starts with none of the first three and with counts of 0"
abbrev pub empty_ledger : Ledger
empty_ledger = record { conditions = none; standard = none; tolerance = none; counts = replicate table_count no_counts }

-- the ledger after a call, and the call's outcome
pub record Entry : Type 0 where
  pub ledger : Ledger
  pub outcome : Outcome

-- "The first that holds is the call's cause, and the ledger stays as it is."
abbrev pub refused_at : Ledger → Cause → Entry
refused_at l cause = record { ledger = l; outcome = refused (cause_number cause) }

-- "An opening enters its conditions and removes the standard."
abbrev pub opened_at : Ledger → Tables → Entry
opened_at l t = record { ledger = record { conditions = held t; standard = none; tolerance = l.tolerance; counts = l.counts }; outcome = accepted }

-- "A standard enters its spectrum and answers its colour under the ledger's conditions."
abbrev pub standard_at : Ledger → Held Tables → List ℕ → Entry
standard_at l none readings = refused_at l NoConditions
standard_at l (held t) readings =
    record {
      ledger = record { conditions = l.conditions; standard = held readings; tolerance = l.tolerance; counts = l.counts };
      outcome = coloured (colour_at t readings);
    }

-- "A tolerance enters its space and amount."
abbrev pub tolerance_at : Ledger → Amount → Entry
tolerance_at l a =
    record { ledger = record { conditions = l.conditions; standard = l.standard; tolerance = held a; counts = l.counts }; outcome = accepted }

-- "the length .. of the spacing in force where a call names none": the rows of the tables that the ledger has
abbrev pub rows_in_force : Held Tables → ℕ
rows_in_force none = 0
rows_in_force (held t) = rows_at t.spacing

-- 10, session full: "the named table's tallies sum to 100,000", of those that the ledger has
abbrev pub count_sum : VerdictCounts → ℕ
count_sum n = n.passed + n.failed + n.line

abbrev pub count_for : Ledger → ℕ → ℕ
count_for l table = count_sum (at_table no_counts l.counts table)

-- "adds 1 to that verdict's count"
abbrev pub counted_in : Verdict → VerdictCounts → VerdictCounts
counted_in Pass n = record { passed = n.passed + 1; failed = n.failed; line = n.line }
counted_in Fail n = record { passed = n.passed; failed = n.failed + 1; line = n.line }
counted_in OnTheLine n = record { passed = n.passed; failed = n.failed; line = n.line + 1 }

-- "E and the verdict by the formulas above": of the standard's colour p and the trial's q, in the space of the tolerance
abbrev pub judged_at : Amount → Colour → Colour → TrialOutcome
judged_at tolerance p q =
    let e = difference tolerance.space p q in
    record { colour = q; e = record { space = tolerance.space; units = e }; verdict = verdict_of (margin tolerance.space) e tolerance.units }

-- "A trial works out, under the ledger's conditions, the colours of both spectra, E and the verdict by the formulas above"
abbrev pub worked_out : Held Tables → Held (List ℕ) → Held Amount → List ℕ → Numbered TrialOutcome
worked_out none standard tolerance readings = refusal NoConditions
worked_out (held t) none tolerance readings = refusal NoStandard
worked_out (held t) (held standard) none readings = refusal NoTolerance
worked_out (held t) (held standard) (held tolerance) readings = causes.accepted (judged_at tolerance (colour_at t standard) (colour_at t readings))

-- "At each call the call's checks run in their order": what a trial of these readings for a table finds, or its cause
abbrev pub tried_at : Ledger → ℕ → List ℕ → Numbered TrialOutcome
tried_at l table readings =
    unless
    (let full = is_full (count_for l table) in
    first_of (trial_checks table (is_held l.conditions) (is_held l.standard) (is_held l.tolerance) full (rows_in_force l.conditions) readings))
    refusal
    (worked_out l.conditions l.standard l.tolerance readings)

-- "and adds 1 to that verdict's count.", of the table that it names. "It answers its own spectrum's colour, E and the verdict."
abbrev pub counted_at : Ledger → ℕ → Numbered TrialOutcome → Entry
counted_at l table (causes.accepted t) =
    record {
      ledger =
          record {
            conditions = l.conditions;
            standard = l.standard;
            tolerance = l.tolerance;
            counts = changed_at (counted_in t.verdict) l.counts table;
          };
      outcome = tried t;
    }
counted_at l table (causes.refused cause) = record { ledger = l; outcome = refused cause }

-- Document 02, "Nearest shade in the time there is": the search under the ledger's conditions, by the colour that readings have under its tables
abbrev pub nearest_at : Held Tables → ℕ → List ℕ → List ℕ → Numbered NearestOutcome
nearest_at none budget swatch book = refusal NoConditions
nearest_at (held t) budget swatch book = causes.accepted (nearest_by (colour_at t) (rows_at t.spacing) budget swatch book)

abbrev pub searched_at : Ledger → ℕ → List ℕ → List ℕ → Numbered NearestOutcome
searched_at l budget swatch book =
    unless (first_of (search_checks (is_held l.conditions) (rows_in_force l.conditions) budget swatch book)) refusal
    (nearest_at l.conditions budget swatch book)

-- Document 02, "Add a preview of a trial": "document 01's ledger works one out like a trial"
abbrev pub looked_at : Ledger → Look → Numbered Sight
looked_at l (preview table readings) = mapped previewed (tried_at l table readings)
looked_at l (nearest budget swatch book) = mapped found (searched_at l budget swatch book)

-- "and adds nothing", "The session doesn't move": whatever a look answers, the ledger stays as it is
abbrev pub seen_at : Ledger → Numbered Sight → Entry
seen_at l answer = record { ledger = l; outcome = seen answer }

-- "A report changes nothing and answers the counts."
abbrev pub entered : Ledger → Call → Entry
entered l (open_tables t) = unless (first_of (table_checks t)) (refused_at l) (opened_at l t)
entered l (open_light light spacing) = unless (first_of (light_checks light spacing)) (refused_at l) (opened_at l (light_tables light spacing))
entered l (set_standard readings) =
    unless (first_of (standard_checks (is_held l.conditions) (rows_in_force l.conditions) readings)) (refused_at l)
    (standard_at l l.conditions readings)
entered l (set_tolerance space amount) =
    unless (first_of (tolerance_checks amount)) (refused_at l) (tolerance_at l (record { space = space; units = amount }))
entered l (trial table readings) = counted_at l table (tried_at l table readings)
entered l report = record { ledger = l; outcome = counted (record { sets = l.counts }) }
entered l (look k) = seen_at l (looked_at l k)

-- the outcomes of a list of calls, by the ledger, and the ledger after it
abbrev pub outcomes_at : Ledger → List Call → List Outcome
outcomes_at l [] = []
outcomes_at l (c ∷ cs) = (entered l c).outcome ∷ outcomes_at (entered l c).ledger cs

abbrev pub ledger_after : Ledger → List Call → Ledger
ledger_after l [] = l
ledger_after l (c ∷ cs) = ledger_after (entered l c).ledger cs
