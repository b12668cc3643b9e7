-- The ledger's counts are those of the verdicts given so far: a trial that is given one adds 1 to its count for the table that it named, and
-- nothing else changes them.
-- Assumes nothing.
use mathlib.Core.Path.{◌≡◌, refl, ◌∙◌, ap}
use mathlib.Core.Bool.{Bool, true, false, ◌&&◌, and-false}
use mathlib.Core.List.{List, ◌∷◌, map}
use Prim.Native.Nat.{ℕ}
use lib.Dec.{eqb}
use borrow.Author.Tests.{eq-eqb, ne_eqb}
use Rattle.causes.specs.Causes.{Numbered, accepted, refused}
use Rattle.causes.proofs.Checks.{either}
use Rattle.cie.specs.declared.Colour.{Colour}
use Rattle.cie.specs.declared.Verdict.{Verdict}
use Rattle.cie.specs.declared.Verdict.TheVariants.{Pass, Fail, OnTheLine}
use Rattle.cie.specs.Sums.{Tables}
use Rattle.tallies.specs.ByTable.{table_numbers, changed_at}
use Rattle.tallies.proofs.ByTable.{changed_numbered}
use Rattle.trials.specs.Outcome.{Amount, TrialOutcome}
use Rattle.session.specs.Call.{Call, open_tables, open_light, set_standard, set_tolerance, trial, report, look}
use Rattle.session.specs.Outcome.{VerdictCounts, Outcome, tried}
use Rattle.session.specs.Ledger.{Held, none, held, Ledger, Entry, standard_at, counted_in, tried_at, counted_at, entered}
use Rattle.claims.specs.Claim.{Event, event, is_pass, is_fail, is_line, given, times_given, verdicts_for, verdicts_in}

-- after a call the entry's ledger counts the call with those before it
abbrev CountsAfter : List Event → Call → Entry → Type 0
CountsAfter before c q = q.ledger.counts ≡ verdicts_in (event c q.outcome ∷ before)

-- a call that is given no verdict leaves the counts of each table as they were
uncounted_for : (before : List Event) (c : Call) (o : Outcome) (table : ℕ) → ((p : Verdict → Bool) → given table p c o ≡ false) →
    verdicts_for before table ≡ verdicts_for (event c o ∷ before) table
unfolding times_given
uncounted_for before c o table h = rw (h is_pass, h is_fail, h is_line)

uncounted : (before : List Event) (c : Call) (o : Outcome) → ((table : ℕ) (p : Verdict → Bool) → given table p c o ≡ false) →
    verdicts_in before ≡ verdicts_in (event c o ∷ before)
uncounted before c o h = λ i. map (λ table. uncounted_for before c o table (h table) i) table_numbers

-- a trial that is given one counts it for its table, and for no other
module _ (before : List Event) (table : ℕ) (readings : List ℕ) (colour : Colour) (e : Amount) where
  abbrev after : Verdict → List Event
  after verdict = event (trial table readings) (tried (record { colour = colour; e = e; verdict = verdict })) ∷ before

  own_set : (verdict : Verdict) → eqb table table ≡ true → counted_in verdict (verdicts_for before table) ≡ verdicts_for (after verdict) table
  unfolding times_given
  own_set Pass k = rw k
  own_set Fail k = rw k
  own_set OnTheLine k = rw k

  other_set : (verdict : Verdict) (another : ℕ) → eqb another table ≡ false → verdicts_for before another ≡ verdicts_for (after verdict) another
  other_set verdict another k =
      uncounted_for before (trial table readings) (tried (record { colour = colour; e = e; verdict = verdict })) another
      (λ p. ap (λ (b : Bool). b && p verdict) k)

  one_more : (verdict : Verdict) → changed_at (counted_in verdict) (verdicts_in before) table ≡ verdicts_in (after verdict)
  one_more verdict =
      changed_numbered (verdicts_for before) (verdicts_for (after verdict)) (counted_in verdict) table (own_set verdict (eq-eqb table table refl))
      (λ another n. other_set verdict another (ne_eqb another table n))

module _ (before : List Event) (l : Ledger) (k : l.counts ≡ verdicts_in before) where
  -- a call that is given no verdict to count: one that is no trial, or a refused one
  kept : (c : Call) (o : Outcome) → ((table : ℕ) (p : Verdict → Bool) → given table p c o ≡ false) → l.counts ≡ verdicts_in (event c o ∷ before)
  kept c o h = k ∙ uncounted before c o h

  at_standard : (t : Held Tables) (readings : List ℕ) → CountsAfter before (set_standard readings) (standard_at l t readings)
  at_standard none readings = kept _ _ (λ table p. refl)
  at_standard (held t) readings = kept _ _ (λ table p. refl)

  at_trial : (table : ℕ) (readings : List ℕ) (a : Numbered TrialOutcome) → CountsAfter before (trial table readings) (counted_at l table a)
  at_trial table readings (accepted t) =
      ap (λ (n : List VerdictCounts). changed_at (counted_in t.verdict) n table) k
      ∙ one_more before table readings t.colour t.e t.verdict
  at_trial table readings (refused cause) = kept _ _ (λ another p. and-false (eqb another table))

  pub counts_next : (c : Call) → CountsAfter before c (entered l c)
  counts_next (open_tables t) = either _ (CountsAfter before (open_tables t)) _ _ (λ c. kept _ _ (λ table p. refl)) (λ e. kept _ _ (λ table p. refl))
  counts_next (open_light light spacing) =
      either _ (CountsAfter before (open_light light spacing)) _ _ (λ c. kept _ _ (λ table p. refl)) (λ e. kept _ _ (λ table p. refl))
  counts_next (set_standard readings) =
      either _ (CountsAfter before (set_standard readings)) _ _ (λ c. kept _ _ (λ table p. refl)) (λ e. at_standard l.conditions readings)
  counts_next (set_tolerance space amount) =
      either _ (CountsAfter before (set_tolerance space amount)) _ _ (λ c. kept _ _ (λ table p. refl)) (λ e. kept _ _ (λ table p. refl))
  counts_next (trial table readings) = at_trial table readings (tried_at l table readings)
  counts_next report = kept _ _ (λ table p. refl)
  counts_next (look i) = kept _ _ (λ table p. refl)
