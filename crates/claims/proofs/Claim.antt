-- Demand 3, whole: for every list of calls from a fresh session each call answers what the ledger answers, each verdict is right of the exact
-- difference and each report is exact. Assumes nothing.
use mathlib.Core.Path.{◌≡◌, refl}
use mathlib.Core.List.{List}
use Prim.Native.Nat.{ℕ}
use Rattle.causes.specs.Causes.{Numbered, accepted, refused}
use Rattle.causes.proofs.Checks.{either}
use Rattle.cie.specs.Sums.{Tables}
use Rattle.trials.specs.Outcome.{TrialOutcome}
use Rattle.session.specs.Call.{Call, open_tables, open_light, set_standard, set_tolerance, trial, report, look}
use Rattle.session.specs.Ledger.{Held, none, held, Ledger, Entry, standard_at, tried_at, counted_at, entered}
use Rattle.claims.specs.Claim.{Event, times_given, verdicts_in, TrialTold, NoVerdict, CallTold, Right, EveryList}
use Rattle.claims.proofs.Kept.{Kept, kept_empty, kept_next}
use Rattle.claims.proofs.Told.{Owed, tried_told, look_told}
use Rattle.claims.proofs.Lists.{each_call}
use Rattle.claims.proofs.Counts.{counts_next}

-- what is carried from call to call: the ledger's entries passed their checks, and its counts are those of its history
record Carried (before : List Event) (l : Ledger) : Type 0 where
  kept : Kept l
  counts : l.counts ≡ verdicts_in before

trial_told : (l : Ledger) (table : ℕ) (readings : List ℕ) (a : Numbered TrialOutcome) → Owed l readings a → TrialTold l readings (counted_at l table a).outcome
trial_told l table readings (accepted t) h = h
trial_told l table readings (refused cause) h = tt

abbrev Silent : Entry → Type 0
Silent q = NoVerdict q.outcome

standard_silent : (l : Ledger) (t : Held Tables) (readings : List ℕ) → Silent (standard_at l t readings)
standard_silent l none readings = tt
standard_silent l (held t) readings = tt

call_told : (before : List Event) (l : Ledger) (c : Call) → Carried before l → CallTold before l c (entered l c).outcome
call_told before l (open_tables t) k = either _ Silent _ _ (λ c. tt) (λ e. tt)
call_told before l (open_light light spacing) k = either _ Silent _ _ (λ c. tt) (λ e. tt)
call_told before l (set_standard readings) k = either _ Silent _ _ (λ c. tt) (λ e. standard_silent l l.conditions readings)
call_told before l (set_tolerance space amount) k = either _ Silent _ _ (λ c. tt) (λ e. tt)
call_told before l (trial table readings) k = trial_told l table readings (tried_at l table readings) (tried_told l table readings k.kept)
call_told before l report k = k.counts
call_told before l (look i) k = look_told l i k.kept

pub every_list : EveryList
every_list = record {
  each =
      each_call Right Carried
      (λ before l c k. record { kept = kept_next l c k.kept; counts = counts_next before l k.counts c })
      (λ before l c k. record { same = refl; told = call_told before l c k })
      (record { kept = kept_empty; counts = unfold times_given in refl });
}
