-- What every call promises. Assumes nothing.
use Rattle.std.specs.Prelude.{◌≡◌}
use Rattle.session.specs.declared.Session.{Session}
use Rattle.session.specs.declared.Served.{Served}
use Rattle.session.specs.Call.{Call}
use Rattle.session.specs.Ledger.{Ledger, entered}
use Rattle.session.specs.Served.{outcome_of, shown, served, Valid}
use Rattle.session.specs.Stands.{session_of}

-- the whole reply, refusals included; the invariant kept; and, from the session that stands for a ledger, the ledger's outcome and the session
-- that stands for the ledger after the call
pub record Meets (s : Session) (c : Call) (r : Served) : Type 0 where
  pub reply : shown r ≡ served s c
  pub valid : Valid r.session
  pub outcome : (l : Ledger) → s ≡ session_of l → outcome_of r.answer ≡ (entered l c).outcome
  pub next : (l : Ledger) → s ≡ session_of l → r.session ≡ session_of (entered l c).ledger
