-- The session is a function of the ledger: each call takes the session of a ledger to the session of the ledger after it, with the ledger's
-- outcome. Assumes nothing.
use mathlib.Core.Path.{◌≡◌, refl, ◌∙◌, ap}
use mathlib.Core.List.{List}
use Prim.Native.Nat.{ℕ}
use Rattle.causes.specs.declared.Cause.{Cause}
use Rattle.causes.specs.Checks.{Checked}
use Rattle.std.specs.Prelude.{Ok, Err}
use Rattle.causes.specs.Causes.{Numbered, accepted, refused}
use Rattle.causes.specs.Checks.{first_of, unless}
use Rattle.cie.specs.declared.Verdict.{Verdict}
use Rattle.cie.specs.declared.Verdict.TheVariants.{Pass, Fail, OnTheLine}
use Rattle.cie.specs.Sums.{Tables}
use Rattle.tallies.specs.declared.Tallies.{Tallies}
use Rattle.tallies.specs.Tallies.{tallied_by}
use Rattle.tallies.proofs.ByTable.{map_changed, map_back}
use Rattle.trials.specs.Outcome.{Amount, TrialOutcome}
use Rattle.session.specs.Call.{Call, open_tables, open_light, set_standard, set_tolerance, trial, report, look}
use Rattle.session.specs.Outcome.{VerdictCounts, tried, counted}
use Rattle.session.specs.Ledger.{Held, none, held, Ledger, Entry, counted_in, tried_at, counted_at, entered}
use Rattle.session.specs.Served.{counts_of, Reply, served, standard_by, with_tallies, counted_by, seen_by}
use Rattle.session.specs.Stands.{tallies_of, session_of}
use Rattle.session.proofs.Trying.{colour_same, ledger_of, tried_same}
use Rattle.session.proofs.Looking.{looking}

-- the reply that stands for a ledger's entry
abbrev pub reply_of : Entry → Reply
reply_of e = record { session = session_of e.ledger; outcome = e.outcome }

-- two answers behind the same checks agree where the refusals and the accepted answers do
both : (t : Checked) (f : Cause → Reply) (a : Reply) (g : Cause → Entry) (b : Entry) →
    ((c : Cause) → f c ≡ reply_of (g c)) → a ≡ reply_of b → unless t f a ≡ reply_of (unless t g b)
unfolding unless
both (Ok tt) f a g b h k = k
both (Err c) f a g b h k = h c

abbrev Same : Ledger → Call → Type 0
Same l c = served (session_of l) c ≡ reply_of (entered l c)

setting : (readings : List ℕ) (t : Held Tables) (s : Held (List ℕ)) (o : Held Amount) (n : List VerdictCounts) →
    Same (ledger_of t s o n) (set_standard readings)
setting readings none s o n = unfold first_of unless in refl
setting readings (held t) s o n = both _ _ _ _ _ (λ c. refl) (ap (standard_by (session_of (ledger_of (held t) s o n))) (colour_same t readings))

-- the tallies are the counts
tallied : (verdict : Verdict) (n : VerdictCounts) → tallied_by verdict (tallies_of n) ≡ tallies_of (counted_in verdict n)
tallied Pass n = refl
tallied Fail n = refl
tallied OnTheLine n = refl

-- what is found of a trial is counted alike
counting : (l : Ledger) (table : ℕ) (a : Numbered TrialOutcome) → counted_by (session_of l) table a ≡ reply_of (counted_at l table a)
counting l table (accepted t) =
    ap (λ (sets : List Tallies). record { session = with_tallies (session_of l) (record { sets = sets }); outcome = tried t })
    (map_changed tallies_of (counted_in t.verdict) (tallied_by t.verdict) (tallied t.verdict) l.counts table)
counting l table (refused cause) = refl

reporting : (l : Ledger) → served (session_of l) report ≡ reply_of (entered l report)
reporting l =
    ap (λ (sets : List VerdictCounts). record { session = session_of l; outcome = counted (record { sets = sets }) })
    (map_back tallies_of counts_of (λ n. refl) l.counts)

-- the session after a call is that of the ledger after it, with the ledger's outcome
pub simulated : (l : Ledger) (c : Call) → served (session_of l) c ≡ reply_of (entered l c)
simulated l (open_tables t) = both _ _ _ _ _ (λ c. refl) refl
simulated l (open_light light spacing) = both _ _ _ _ _ (λ c. refl) refl
simulated l (set_standard readings) = setting readings l.conditions l.standard l.tolerance l.counts
simulated l (set_tolerance space amount) = both _ _ _ _ _ (λ c. refl) refl
simulated l (trial table readings) = ap (counted_by (session_of l) table) (tried_same l table readings) ∙ counting l table (tried_at l table readings)
simulated l report = reporting l
simulated l (look k) = ap (seen_by (session_of l)) (looking l k)
