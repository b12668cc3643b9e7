-- Demand 3: "a single claim about a list of these five calls as a whole, of any length", with calls that only look anywhere among them.
-- Assumes nothing.
use Rattle.std.specs.Prelude.{◌≡◌, Bool, true, false, cond, ◌&&◌, List, [], ◌∷◌, map, ℕ, ◌+◌, eqb}
use Rattle.causes.specs.Causes as causes
use Rattle.cie.specs.declared.Verdict.{Verdict}
use Rattle.cie.specs.declared.Verdict.TheVariants.{Pass, Fail, OnTheLine}
use Rattle.cie.specs.Spacing.{rows_at}
use Rattle.cie.specs.Sums.{Tables, sums_of, white_of}
use Rattle.cie.specs.Colour.{colour_at}
use Rattle.cie.specs.Exact.{squares_at}
use Rattle.cie.specs.Verdict.{Told}
use Rattle.tallies.specs.ByTable.{table_numbers}
use Rattle.trials.specs.Outcome.{Amount}
use Rattle.nearest.specs.Rule.{NearestOutcome}
use Rattle.book_search.specs.Claims.{NearestTold}
use Rattle.looks.specs.Look.{Look, preview, nearest, Sight, previewed, found}
use Rattle.session.specs.declared.Session.{Session}
use Rattle.session.specs.Call.{Call, open_tables, open_light, set_standard, set_tolerance, trial, report, look}
use Rattle.session.specs.Outcome.{VerdictCounts, Outcome, accepted, coloured, tried, counted, seen, refused}
use Rattle.session.specs.Ledger.{Held, none, held, Ledger, empty_ledger, entered}
use Rattle.session.specs.Served.{served, fresh_session}

-- "The first call gets a fresh session. Each later one gets the session that the call before it returned or, when refused, left."
abbrev pub outcomes_from : Session → List Call → List Outcome
outcomes_from s [] = []
outcomes_from s (c ∷ cs) = (served s c).outcome ∷ outcomes_from (served s c).session cs

-- the session that the last call of a list returned or, when refused, left
abbrev pub session_after : Session → List Call → Session
session_after s [] = s
session_after s (c ∷ cs) = session_after (served s c).session cs

-- a call of a list with its outcome; the history of a call are those before it, the latest first
pub record Event : Type 0 where
  pub call : Call
  pub outcome : Outcome

abbrev pub event : Call → Outcome → Event
event c o = record { call = c; outcome = o }

-- at each call of a list P holds of its history, the ledger as it is then, the call, and its outcome
pub data Each (P : List Event → Ledger → Call → Outcome → Type 0) : List Event → Ledger → List Call → List Outcome → Type 0 where
  done : {before : List Event} {l : Ledger} → Each P before l [] []
  more : {before : List Event} {l : Ledger} {c : Call} {cs : List Call} {o : Outcome} {os : List Outcome} →
      P before l c o → Each P (event c o ∷ before) (entered l c).ledger cs os → Each P before l (c ∷ cs) (o ∷ os)

-- "The trial's exact difference is taken between the standard's spectrum and its own, both under the ledger's conditions, in the tolerance's
-- space.": what the verdict tells of it, and of the tolerance in force. There is no verdict without all three.
abbrev pub VerdictTold : Held Tables → Held (List ℕ) → Held Amount → List ℕ → Verdict → Type 0
VerdictTold none standard tolerance readings verdict = ⊥
VerdictTold (held t) none tolerance readings verdict = ⊥
VerdictTold (held t) (held standard) none readings verdict = ⊥
VerdictTold (held t) (held standard) (held a) readings verdict =
    Told a.space (squares_at a.space (white_of t) (sums_of t standard) (sums_of t readings)) a.units verdict

-- "'In force' in demand 3 is what the ledger has when the trial comes."
abbrev pub VerdictAt : Ledger → List ℕ → Verdict → Type 0
VerdictAt l readings verdict = VerdictTold l.conditions l.standard l.tolerance readings verdict

abbrev pub TrialTold : Ledger → List ℕ → Outcome → Type 0
TrialTold l readings accepted = ⊥
TrialTold l readings (coloured colour) = ⊥
TrialTold l readings (tried t) = VerdictAt l readings t.verdict
TrialTold l readings (counted r) = ⊥
TrialTold l readings (seen answer) = ⊥
TrialTold l readings (refused cause) = Unit

-- Document 02: "No shade in the book has an E below the best by more than the gap.", by the colours that readings have under the ledger's tables.
-- There is no nearest shade without them.
abbrev pub NearestAt : Held Tables → ℕ → List ℕ → List ℕ → NearestOutcome → Type 0
NearestAt none budget swatch book a = ⊥
NearestAt (held t) budget swatch book a = NearestTold (colour_at t) (rows_at t.spacing) budget swatch book a

-- Document 02: "the mission's promise about verdicts covers what they show": a preview; a search shows no verdict
abbrev pub SightTold : Ledger → Look → Sight → Type 0
SightTold l (preview table readings) (previewed t) = VerdictAt l readings t.verdict
SightTold l (preview table readings) (found a) = ⊥
SightTold l (nearest budget swatch book) (previewed t) = ⊥
SightTold l (nearest budget swatch book) (found a) = NearestAt l.conditions budget swatch book a

abbrev pub LookTold : Ledger → Look → Outcome → Type 0
LookTold l k accepted = ⊥
LookTold l k (coloured colour) = ⊥
LookTold l k (tried t) = ⊥
LookTold l k (counted r) = ⊥
LookTold l k (seen (causes.accepted sight)) = SightTold l k sight
LookTold l k (seen (causes.refused cause)) = Unit
LookTold l k (refused cause) = ⊥

-- "every report's tallies are exact": "all eight sets, each counting the verdicts of the trials that named its table", of those before it in the
-- list, counted over the list itself
abbrev pub is_pass : Verdict → Bool
is_pass Pass = true
is_pass Fail = false
is_pass OnTheLine = false

abbrev pub is_fail : Verdict → Bool
is_fail Pass = false
is_fail Fail = true
is_fail OnTheLine = false

abbrev pub is_line : Verdict → Bool
is_line Pass = false
is_line Fail = false
is_line OnTheLine = true

abbrev pub shows : (Verdict → Bool) → Outcome → Bool
shows p accepted = false
shows p (coloured colour) = false
shows p (tried t) = p t.verdict
shows p (counted r) = false
shows p (seen answer) = false
shows p (refused cause) = false

-- whether a call is a trial that named this table and was given such a verdict: no other call is counted, whatever it shows
abbrev pub given : ℕ → (Verdict → Bool) → Call → Outcome → Bool
given table p (open_tables t) o = false
given table p (open_light light spacing) o = false
given table p (set_standard readings) o = false
given table p (set_tolerance space amount) o = false
given table p (trial named readings) o = eqb table named && shows p o
given table p report o = false
given table p (look k) o = false

unfoldable pub times_given : ℕ → (Verdict → Bool) → List Event → ℕ
times_given table p [] = 0
times_given table p (e ∷ es) = cond (given table p e.call e.outcome) (times_given table p es + 1) (times_given table p es)

abbrev pub verdicts_for : List Event → ℕ → VerdictCounts
verdicts_for es table = record { passed = times_given table is_pass es; failed = times_given table is_fail es; line = times_given table is_line es }

abbrev pub verdicts_in : List Event → List VerdictCounts
verdicts_in es = map (verdicts_for es) table_numbers

abbrev pub ReportTold : List Event → Outcome → Type 0
ReportTold before accepted = ⊥
ReportTold before (coloured colour) = ⊥
ReportTold before (tried t) = ⊥
ReportTold before (counted r) = r.sets ≡ verdicts_in before
ReportTold before (seen answer) = ⊥
ReportTold before (refused cause) = ⊥

-- no call but a trial or a look shows a verdict
abbrev pub NoVerdict : Outcome → Type 0
NoVerdict accepted = Unit
NoVerdict (coloured colour) = Unit
NoVerdict (tried t) = ⊥
NoVerdict (counted r) = Unit
NoVerdict (seen answer) = ⊥
NoVerdict (refused cause) = Unit

abbrev pub CallTold : List Event → Ledger → Call → Outcome → Type 0
CallTold before l (open_tables t) o = NoVerdict o
CallTold before l (open_light light spacing) o = NoVerdict o
CallTold before l (set_standard readings) o = NoVerdict o
CallTold before l (set_tolerance space amount) o = NoVerdict o
CallTold before l (trial table readings) o = TrialTold l readings o
CallTold before l report o = ReportTold before o
CallTold before l (look k) o = LookTold l k o

-- "each call is accepted or refused as by the ledger and gives exactly what the ledger gives", and what it tells is so
pub record Right (before : List Event) (l : Ledger) (c : Call) (o : Outcome) : Type 0 where
  pub same : o ≡ (entered l c).outcome
  pub told : CallTold before l c o

-- demand 3, for every list of calls from a fresh session
pub record EveryList : Type 0 where
  pub each : (cs : List Call) → Each Right [] empty_ledger cs (outcomes_from fresh_session cs)
