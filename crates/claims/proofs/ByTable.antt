-- A trial changes the tallies of its own table alone, and trials in any order end in the same tallies where none is refused as full.
-- Assumes nothing.
use mathlib.Core.Path.{◌≡◌, refl, ap, sym, subst, ◌∙◌}
use mathlib.Core.List.{List, [], ◌∷◌}
use mathlib.Core.Option.{Option}
use Prim.Native.Nat.{ℕ, ◌<◌}
use Rattle.causes.specs.Causes.{Numbered, accepted, refused}
use Rattle.cie.specs.declared.Verdict.{Verdict}
use Rattle.tallies.specs.declared.Tallies.{Tallies}
use Rattle.tallies.specs.ByTable.{table_limit}
use Rattle.tallies.specs.Tallies.{no_tallies, tallied_by}
use Rattle.tallies.proofs.ByTable.{changed_other}
use Rattle.tallies.proofs.Sets.{count_at}
use Rattle.tallies.proofs.Orders.{after_all, tried_in, NoneLost, below_lost, order_same}
use Rattle.trials.specs.Outcome.{TrialOutcome}
use Rattle.trials.specs.Tried.{tried_by}
use Rattle.session.specs.declared.Session.{Session}
use Rattle.session.specs.Served.{standing_of, counted_by, Valid}
use Rattle.claims.specs.ByTable.{tallies_for, OthersKept, Trial, after_trials, Reordered, NoneReached, NoneFull, EndAlike, AnyOrder}
use Rattle.claims.proofs.Steps.{with_sets, own_verdict, stepped, not_lost}

counted_keeps : (s : Session) (table : ℕ) (a : Numbered TrialOutcome) (another : ℕ) → (another ≡ table → ⊥) →
    tallies_for (counted_by s table a).session another ≡ tallies_for s another
counted_keeps s table (accepted t) another n = changed_other (tallied_by t.verdict) no_tallies s.tallies.sets table another n
counted_keeps s table (refused cause) another n = refl

pub others_kept : OthersKept
others_kept =
    record {
      trial_keeps = λ s table readings. counted_keeps s table (tried_by s.conditions (standing_of s) table readings);
      preview_keeps = λ s table readings another. refl;
    }

module _ (s : Session) where
  abbrev table_of : Trial → ℕ
  table_of t = t.table

  -- what a trial comes to by itself: whatever its tallies, the session's settings decide
  abbrev own_of : Trial → Option Verdict
  own_of t = own_verdict s t.table t.readings

  after_all_lem : (sets : List Tallies) (ts : List Trial) → (after_trials (with_sets s sets) ts).tallies.sets ≡ after_all table_of own_of sets ts
  after_all_lem sets [] = refl
  after_all_lem sets (t ∷ ts) =
      ap (λ (q : Session). (after_trials q ts).tallies.sets) (stepped (with_sets s sets) t.table t.readings)
      ∙ after_all_lem (tried_in table_of own_of sets t) ts

  none_lost : (sets : List Tallies) (ts : List Trial) → NoneFull (with_sets s sets) ts → NoneLost table_of own_of sets ts
  none_lost sets [] k = tt
  none_lost sets (t ∷ ts) k = (
    not_lost (with_sets s sets) t.table t.readings k.0,
    none_lost (tried_in table_of own_of sets t) ts (subst (λ (q : Session). NoneFull q ts) (stepped (with_sets s sets) t.table t.readings) k.1),
  )

  module _ {ts us : List Trial} (v : Valid s) (r : Reordered ts us) where
    ordered : NoneLost table_of own_of s.tallies.sets ts → EndAlike s ts us
    ordered k =
        ap (λ (sets : List Tallies). record { sets = sets })
        (after_all_lem s.tallies.sets ts
        ∙ order_same table_of own_of s.tallies.sets v.standing.tallies r k
        ∙ sym (after_all_lem s.tallies.sets us))

    full_ordered : NoneFull s ts → EndAlike s ts us
    full_ordered k = ordered (none_lost s.tallies.sets ts k)

    reached_ordered : NoneReached s ts → EndAlike s ts us
    reached_ordered k =
        ordered
        (below_lost table_of own_of s.tallies.sets ts
        (subst (λ (sets : List Tallies). (table : ℕ) → count_at sets table < table_limit) (after_all_lem s.tallies.sets ts) k))

pub any_order : AnyOrder
any_order = record { none_reached = λ s v r k. reached_ordered s v r k; none_full = λ s v r k. full_ordered s v r k }
