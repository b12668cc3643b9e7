-- Every session that a call returns or leaves is valid, and with that a call's reply gives the whole of its promise. Assumes nothing.
use mathlib.Core.Path.{◌≡◌, sym, ◌∙◌, ap, subst}
use mathlib.Core.List.{List}
use Prim.Native.Nat.{ℕ}
use native.Mathlib.Omega.{arith}
use borrow.Author.Tests.{eqb-false}
use Rattle.causes.specs.Causes.{Numbered, accepted, refused}
use Rattle.causes.proofs.Checks.{clear_head, clear_tail, clear_at, either}
use Rattle.cie.specs.Scales.{frame_limit}
use Rattle.conditions.specs.Measure.{colour_under}
use Rattle.conditions.proofs.Sound.{sound_none, sound_tables, sound_light}
use Rattle.conditions.proofs.Measuring.{spectrum_of_lem, sized_under}
use Rattle.tallies.specs.ByTable.{table_limit}
use Rattle.tallies.proofs.Sets.{count_at, within_none, within_counted}
use Rattle.rules.specs.Rules.{judged_of}
use Rattle.trials.specs.Outcome.{TrialOutcome}
use Rattle.trials.specs.Tried.{judged_as, tried_by}
use Rattle.session.specs.declared.Session.{Session}
use Rattle.session.specs.declared.Served.{Served}
use Rattle.session.specs.Call.{Call, open_tables, open_light, set_standard, set_tolerance, trial, report, look}
use Rattle.session.specs.Ledger.{Ledger, entered}
use Rattle.session.specs.Served.{Reply, shown, served, fresh_session, counted_by, Valid}
use Rattle.session.specs.Stands.{session_of}
use Rattle.session.specs.Meets.{Meets}
use Rattle.session.proofs.Simulation.{reply_of, simulated}

after_trial : (s : Session) (table : ℕ) (a : Numbered TrialOutcome) → Valid s → (count_at s.tallies.sets table ≡ table_limit → ⊥) →
    Valid (counted_by s table a).session
after_trial s table (accepted t) v room =
    let h = v.standing in
    record { standing = record { sound = h.sound; standard = h.standard; tallies = within_counted s.tallies.sets table t.verdict h.tallies room } }
after_trial s table (refused cause) v room = v

trial_valid : (s : Session) (table : ℕ) (readings : List ℕ) → Valid s → Valid (served s (trial table readings)).session
unfolding tried_by
trial_valid s table readings v =
    either _ (λ (a : Numbered TrialOutcome). Valid (counted_by s table a).session) _ _ (λ c. v)
    (λ e.
    let k = colour_under s.conditions readings in
    after_trial s table (judged_as k (judged_of s.standard s.tolerance k)) v (eqb-false _ _ (clear_at _ e 4)))

pub valid_fresh : Valid fresh_session
valid_fresh = record { standing = record { sound = sound_none; standard = tt; tallies = within_none } }

abbrev ValidAfter : Reply → Type 0
ValidAfter r = Valid r.session

pub valid_next : (s : Session) (c : Call) → Valid s → Valid (served s c).session
valid_next s (open_tables t) v =
    either _ ValidAfter _ _ (λ c. v) (λ e. record { standing = record { sound = sound_tables t e; standard = tt; tallies = v.standing.tallies } })
valid_next s (open_light light spacing) v =
    either _ ValidAfter _ _ (λ c. v)
    (λ e. record { standing = record { sound = sound_light light spacing (clear_head _ _ _ e); standard = tt; tallies = v.standing.tallies } })
valid_next s (set_standard readings) v =
    either _ ValidAfter _ _ (λ c. v)
    (λ e.
    let h = v.standing in
    let spectrum = spectrum_of_lem frame_limit s.conditions.rows readings (omega arith) h.sound.few (clear_tail _ _ _ e) in
    record { standing = record { sound = h.sound; standard = sized_under h.sound spectrum; tallies = h.tallies } })
valid_next s (set_tolerance space amount) v =
    let h = v.standing in
    either _ ValidAfter _ _ (λ c. v) (λ e. record { standing = record { sound = h.sound; standard = h.standard; tallies = h.tallies } })
valid_next s (trial table readings) v = trial_valid s table readings v
valid_next s report v = v
valid_next s (look k) v = v

-- a call's reply, from a valid session, gives the rest of its promise
pub meets : (s : Session) (c : Call) (r : Served) → Valid s → shown r ≡ served s c → Meets s c r
meets s c r v e =
    let same : (l : Ledger) → s ≡ session_of l → shown r ≡ reply_of (entered l c) =
    λ l h. e ∙ ap (λ (q : Session). served q c) h ∙ simulated l c in
    record {
      reply = e;
      valid = subst Valid (sym (ap (λ (q : Reply). q.session) e)) (valid_next s c v);
      outcome = λ l h. ap (λ (q : Reply). q.outcome) (same l h);
      next = λ l h. ap (λ (q : Reply). q.session) (same l h);
    }
