-- One trial, seen from the tallies: what it comes to by itself depends on the settings alone, and is counted unless its table is full.
-- Assumes nothing.
use mathlib.Core.Path.{◌≡◌, refl, ap, ◌∙◌}
use mathlib.Core.Bool.{Bool, true, false}
use mathlib.Core.List.{List}
use mathlib.Core.Option.{Option, none, some}
use Prim.Native.Nat.{ℕ}
use native.Mathlib.Omega.{arith}
use Rattle.causes.specs.declared.Cause.TheVariants.{SessionFull}
use Rattle.causes.specs.Checks.{Checked}
use Rattle.std.specs.Prelude.{Ok, Err}
use Rattle.causes.specs.Causes.{Numbered, accepted, refused, refusal, cause_number}
use Rattle.causes.specs.Checks.{first_of, unless}
use Rattle.causes.proofs.Checks.{first_fires, first_passes, clear_at, either, refuses}
use Rattle.cie.specs.declared.Verdict.{Verdict}
use Rattle.conditions.specs.Measure.{colour_under}
use Rattle.tallies.specs.declared.Tallies.{Tallies}
use Rattle.tallies.proofs.Orders.{counted_as, counted_unless, is_full_at, KeptWhen}
use Rattle.rules.specs.Rules.{has_standard, has_tolerance, judged_of}
use Rattle.trials.specs.Outcome.{TrialOutcome}
use Rattle.trials.specs.Checks.{trial_checks}
use Rattle.trials.specs.Tried.{judged_as, tried_by}
use Rattle.session.specs.declared.Session.{Session}
use Rattle.session.specs.Call.{trial}
use Rattle.session.specs.Outcome as outcome
use Rattle.session.specs.Served.{served, with_tallies, counted_by}

abbrev verdict_in : Numbered TrialOutcome → Option Verdict
verdict_in (accepted t) = some t.verdict
verdict_in (refused cause) = none

-- a session with other tallies
abbrev pub with_sets : Session → List Tallies → Session
with_sets s sets = with_tallies s (record { sets = sets })

module _ (s : Session) (table : ℕ) (readings : List ℕ) where
  -- what the checks find, of a table that is full or not
  abbrev checks_when : Bool → Checked
  checks_when full = first_of (trial_checks table s.opened (has_standard s.standard) (has_tolerance s.tolerance) full s.conditions.rows readings)

  abbrev answer : Numbered TrialOutcome
  answer = let colour = colour_under s.conditions readings in judged_as colour (judged_of s.standard s.tolerance colour)

  abbrev found_when : Bool → Numbered TrialOutcome
  found_when full = unless (checks_when full) refusal answer

  -- its verdict by itself, where its table is not full
  abbrev pub own_verdict : Option Verdict
  own_verdict = verdict_in (found_when false)

  counted_own : (a : Numbered TrialOutcome) → (counted_by s table a).session ≡ with_sets s (counted_as s.tallies.sets table (verdict_in a))
  counted_own (accepted t) = refl
  counted_own (refused cause) = refl

  counted_when : (full : Bool) → (counted_by s table (found_when full)).session ≡ with_sets s (counted_unless full s.tallies.sets table own_verdict)
  counted_when false = counted_own (found_when false)
  counted_when true =
      either (checks_when true) (λ (a : Numbered TrialOutcome). (counted_by s table a).session ≡ s) refusal answer (λ c. refl)
      (λ e.
      let z : ◌≡◌ {A = Bool} true false = clear_at _ e 4 in
      let o : ◌≡◌ {A = ℕ} 0 1 = cc in absurd (omega arith))

  -- the session after a trial
  pub stepped : (served s (trial table readings)).session ≡ with_sets s (counted_unless (is_full_at s.tallies.sets table) s.tallies.sets table own_verdict)
  unfolding tried_by
  stepped = counted_when (is_full_at s.tallies.sets table)

  -- a trial that has a verdict by itself passes all checks but that of a full table
  own_clear : (t : Checked) (a : Numbered TrialOutcome) (verdict : Verdict) → verdict_in (unless t refusal a) ≡ some verdict → t ≡ Ok tt
  unfolding unless
  own_clear (Ok tt) a verdict e = refl
  own_clear (Err c) a verdict e = cc

  full_because : checks_when false ≡ Ok tt → checks_when true ≡ Err SessionFull
  full_because e =
      first_passes _ _ _ (clear_at _ e 0)
      ∙ first_passes _ _ _ (clear_at _ e 1)
      ∙ first_passes _ _ _ (clear_at _ e 2)
      ∙ first_passes _ _ _ (clear_at _ e 3)
      ∙ first_fires _ _ _ refl

  refused_when : (full : Bool) (verdict : Verdict) → full ≡ true → own_verdict ≡ some verdict →
      (counted_by s table (found_when full)).outcome ≡ outcome.refused (cause_number SessionFull)
  refused_when true verdict f e =
      ap (λ (a : Numbered TrialOutcome). (counted_by s table a).outcome)
      (refuses (checks_when true) refusal answer SessionFull (full_because (own_clear (checks_when false) answer verdict e)))
  refused_when false verdict f e = cc

  -- so where it is not refused as full, its verdict is not lost
  pub not_lost : ((served s (trial table readings)).outcome ≡ outcome.refused (cause_number SessionFull) → ⊥) →
      KeptWhen (is_full_at s.tallies.sets table) own_verdict
  unfolding tried_by
  not_lost n f verdict e = n (refused_when (is_full_at s.tallies.sets table) verdict f e)
