-- Document 01, "Session", and the calls of document 02 that only look: each call with its arguments other than the session. A trial names its
-- inspection table, then its readings. Assumes nothing.
use Rattle.std.specs.Prelude.{List, ℕ}
use Rattle.cie.specs.declared.Space.{Space}
use Rattle.cie.specs.Sums.{Tables}
use Rattle.looks.specs.Look.{Look}

pub data Call : Type 0 where
  open_tables : Tables → Call
  open_light : ℕ → ℕ → Call
  set_standard : List ℕ → Call
  set_tolerance : Space → ℕ → Call
  trial : ℕ → List ℕ → Call
  report : Call
  look : Look → Call
