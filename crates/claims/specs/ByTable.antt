-- Document 02, "Tallies by inspection table": what is claimed of the tables' tallies, beside the claim about every list. Assumes nothing.
use Rattle.std.specs.Prelude.{◌≡◌, ℕ, ◌<◌}
use mathlib.Core.List.{List, [], ◌∷◌, map, Permᴰ}
use Rattle.causes.specs.declared.Cause.TheVariants.{SessionFull}
use Rattle.causes.specs.Causes.{cause_number}
use Rattle.tallies.specs.declared.Tallies.{Tallies}
use Rattle.tallies.specs.ByTable.{table_limit}
use Rattle.tallies.specs.Tallies.{tally_sum, set_of}
use Rattle.looks.specs.Look.{preview}
use Rattle.session.specs.declared.Session.{Session}
use Rattle.session.specs.Call.{Call, trial, look}
use Rattle.session.specs.Outcome.{refused}
use Rattle.session.specs.Served.{served, Valid}
use Rattle.claims.specs.Claim.{session_after}

-- the set of tallies that a session has for a table
abbrev pub tallies_for : Session → ℕ → Tallies
tallies_for s table = set_of s.tallies.sets table

-- "A call for one table, refused or not, leaves the other seven sets as they were."
pub record OthersKept : Type 0 where
  pub trial_keeps : (s : Session) (table : ℕ) (readings : List ℕ) (another : ℕ) → (another ≡ table → ⊥) →
      tallies_for (served s (trial table readings)).session another ≡ tallies_for s another
  pub preview_keeps : (s : Session) (table : ℕ) (readings : List ℕ) (another : ℕ) →
      tallies_for (served s (look (preview table readings))).session another ≡ tallies_for s another

-- a trial: the table that it names, and its readings
pub record Trial : Type 0 where
  pub table : ℕ
  pub readings : List ℕ

abbrev pub trial_call : Trial → Call
trial_call t = trial t.table t.readings

-- "from the same session, trials made under the same settings": one after the other, with no other call between them
abbrev pub after_trials : Session → List Trial → Session
after_trials s ts = session_after s (map trial_call ts)

-- "reordered in any way": every permutation, as the library has it
abbrev pub Reordered : List Trial → List Trial → Type 0
Reordered ts us = Permᴰ ts us

-- "provided that no table reaches its limit": none has, after the list; tallies only rise, so none has before that
abbrev pub NoneReached : Session → List Trial → Type 0
NoneReached s ts = (table : ℕ) → tally_sum (tallies_for (after_trials s ts) table) < table_limit

-- less than that: no trial of the list is refused as full
abbrev pub NoneFull : Session → List Trial → Type 0
NoneFull s [] = Unit
NoneFull s (t ∷ ts) = ((served s (trial_call t)).outcome ≡ refused (cause_number SessionFull) → ⊥) × NoneFull (served s (trial_call t)).session ts

-- "end in the same tallies"
abbrev pub EndAlike : Session → List Trial → List Trial → Type 0
EndAlike s ts us = (after_trials s ts).tallies ≡ (after_trials s us).tallies

-- from a session that is fresh, or that calls returned or left; trials that are refused for any other cause may be among them
pub record AnyOrder : Type 0 where
  pub none_reached : (s : Session) {ts us : List Trial} → Valid s → Reordered ts us → NoneReached s ts → EndAlike s ts us
  pub none_full : (s : Session) {ts us : List Trial} → Valid s → Reordered ts us → NoneFull s ts → EndAlike s ts us

-- the proviso is needed: a session, and two trials whose order tells in the tallies
pub record OrderTells : Type 0 where
  pub session : Session
  pub valid : Valid session
  pub one : Trial
  pub other : Trial
  pub differ : EndAlike session (one ∷ other ∷ []) (other ∷ one ∷ []) → ⊥
