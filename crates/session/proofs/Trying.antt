-- What the session finds of a trial is what the ledger works out, since prepared weights give the same sums as the tables. Assumes nothing.
use mathlib.Core.Path.{◌≡◌, ◌∙◌, ap}
use mathlib.Core.Bool.{Bool, true}
use mathlib.Core.List.{List}
use Prim.Native.Nat.{ℕ}
use Rattle.std.specs.Prelude.{Some}
use Rattle.causes.specs.Causes.{Numbered, accepted, refusal}
use Rattle.causes.specs.Checks.{first_of, unless}
use Rattle.causes.proofs.Checks.{fires_both, behind}
use Rattle.cie.specs.declared.Colour.{Colour}
use Rattle.cie.specs.declared.Space.{Space}
use Rattle.cie.specs.declared.Verdict.{Verdict}
use Rattle.cie.specs.Spacing.{rows_at}
use Rattle.cie.specs.Sums.{Tables, white_of}
use Rattle.cie.specs.Colour.{colour_of, colour_at}
use Rattle.conditions.specs.Conditions.{conditions_of}
use Rattle.conditions.specs.Measure.{colour_under}
use Rattle.conditions.proofs.Dots.{sums_same}
use Rattle.tallies.specs.ByTable.{is_full}
use Rattle.tallies.specs.Tallies.{tally_sum, set_of}
use Rattle.tallies.proofs.ByTable.{at_map}
use Rattle.rules.specs.Rules.{tolerance_of, has_standard, has_tolerance, judged_by, judged_of}
use Rattle.rules.proofs.InSpace.{judged_in}
use Rattle.trials.specs.Outcome.{Amount, TrialOutcome}
use Rattle.trials.specs.Checks.{trial_checks}
use Rattle.trials.specs.Tried.{judged_as, tried_by}
use Rattle.session.specs.Outcome.{VerdictCounts}
use Rattle.session.specs.Ledger.{Held, none, held, is_held, Ledger, no_counts, count_for, rows_in_force, judged_at, worked_out, tried_at}
use Rattle.session.specs.Served.{standing_of}
use Rattle.session.specs.Stands.{held_conditions, held_standard, held_tolerance, tallies_of, session_of}

pub colour_same : (t : Tables) (readings : List ℕ) → colour_under (conditions_of t) readings ≡ colour_at t readings
colour_same t readings = ap (colour_of (white_of t)) (sums_same t readings)

abbrev pub ledger_of : Held Tables → Held (List ℕ) → Held Amount → List VerdictCounts → Ledger
ledger_of conditions standard tolerance counts = record { conditions = conditions; standard = standard; tolerance = tolerance; counts = counts }

-- the program's judgement of an amount is the ledger's, in the amount's space
judging : (space : Space) (units : ℕ) (p q : Colour) →
    judged_as q (Some (judged_by (tolerance_of space units) p q)) ≡ accepted (judged_at (record { space = space; units = units }) p q)
judging space units p q =
    let j = judged_in space units p q in
    let told : Space → ℕ → Verdict → Numbered TrialOutcome = λ k n v. accepted (record { colour = q; e = record { space = k; units = n }; verdict = v }) in
    λ i. told (j.in_space i) (j.counted i) (j.judged i)

-- the tallies of a table count what the ledger counts for it
count_same : (l : Ledger) (table : ℕ) → tally_sum (set_of (session_of l).tallies.sets table) ≡ count_for l table
count_same l table = ap tally_sum (at_map tallies_of no_counts l.counts table)

-- what the session finds of a trial, whether its table is full or not, is what the ledger works out
trying : (table : ℕ) (full : Bool) (readings : List ℕ) (t : Held Tables) (s : Held (List ℕ)) (o : Held Amount) →
    let conditions = held_conditions t in
    let colour = colour_under conditions readings in
    unless
    (first_of (trial_checks table (is_held t) (has_standard (held_standard t s)) (has_tolerance (held_tolerance o)) full conditions.rows readings))
    refusal
    (judged_as colour (judged_of (held_standard t s) (held_tolerance o) colour))
    ≡ unless (first_of (trial_checks table (is_held t) (is_held s) (is_held o) full (rows_in_force t) readings)) refusal (worked_out t s o readings)
trying table full readings none s o = behind _ _ _ _ _ _ _ (λ _. fires_both _ _ _ _ _ _)
trying table full readings (held t) none o = behind _ _ _ _ _ _ _ (λ _. behind _ _ _ _ _ _ _ (λ _. fires_both _ _ _ _ _ _))
trying table full readings (held t) (held s) none =
    behind _ _ _ _ _ _ _ (λ _. behind _ _ _ _ _ _ _ (λ _. behind _ _ _ _ _ _ _ (λ _. fires_both _ _ _ _ _ _)))
trying table full readings (held t) (held s) (held a) =
    let judge : Colour → Numbered TrialOutcome = λ q. judged_as q (Some (judged_by (tolerance_of a.space a.units) (colour_at t s) q)) in
    ap (λ (q : Numbered TrialOutcome). unless (first_of (trial_checks table true true true full (rows_at t.spacing) readings)) refusal q)
    (ap judge (colour_same t readings) ∙ judging a.space a.units (colour_at t s) (colour_at t readings))

pub tried_same : (l : Ledger) (table : ℕ) (readings : List ℕ) →
    tried_by (session_of l).conditions (standing_of (session_of l)) table readings ≡ tried_at l table readings
unfolding tried_by
tried_same l table readings =
    ap
    (λ (n : ℕ).
    let s = session_of l in
    let colour = colour_under s.conditions readings in
    unless
    (first_of (trial_checks table s.opened (has_standard s.standard) (has_tolerance s.tolerance) (is_full n) s.conditions.rows readings))
    refusal
    (judged_as colour (judged_of s.standard s.tolerance colour)))
    (count_same l table)
    ∙ trying table (is_full (count_for l table)) readings l.conditions l.standard l.tolerance
