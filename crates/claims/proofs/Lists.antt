-- A list of calls from the session of a ledger is given the ledger's outcomes, one call after the other. Assumes nothing.
use mathlib.Core.Path.{◌≡◌, refl}
use mathlib.Core.List.{List, [], ◌∷◌}
use Rattle.session.specs.Call.{Call}
use Rattle.session.specs.Outcome.{Outcome}
use Rattle.session.specs.Ledger.{Ledger, empty_ledger, entered, outcomes_at}
use Rattle.session.specs.Served.{fresh_session}
use Rattle.session.specs.Stands.{session_of}
use Rattle.session.proofs.Simulation.{simulated}
use Rattle.claims.specs.Claim.{outcomes_from, Event, event, Each, done, more}

pub outcomes_same : (l : Ledger) (cs : List Call) → outcomes_from (session_of l) cs ≡ outcomes_at l cs
outcomes_same l [] = refl
outcomes_same l (c ∷ cs) = rw (simulated l c, outcomes_same (entered l c).ledger cs)

-- what holds of the ledger's own outcomes, under a rule that every call keeps, holds of the program's at each call of a list
module _
    (P : List Event → Ledger → Call → Outcome → Type 0)
    (K : List Event → Ledger → Type 0)
    (kept : (before : List Event) (l : Ledger) (c : Call) → K before l → K (event c (entered l c).outcome ∷ before) (entered l c).ledger)
    (right : (before : List Event) (l : Ledger) (c : Call) → K before l → P before l c (entered l c).outcome)
  where
    each_from : (before : List Event) (l : Ledger) (cs : List Call) → K before l → Each P before l cs (outcomes_from (session_of l) cs)
    each_from before l [] k = done
    each_from before l (c ∷ cs) k =
        let history = event c (entered l c).outcome ∷ before in
        rw (simulated l c) (more (right before l c k) (each_from history (entered l c).ledger cs (kept before l c k)))

    pub each_call : K [] empty_ledger → (cs : List Call) → Each P [] empty_ledger cs (outcomes_from fresh_session cs)
    each_call k cs = each_from [] empty_ledger cs k
