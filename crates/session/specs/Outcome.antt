-- What the ledger counts and answers, beside what a trial and a look show: words of the paper, and no type that the program decides by.
-- Assumes nothing.
use Rattle.std.specs.Prelude.{List, ℕ}
use Rattle.causes.specs.Causes.{Numbered}
use Rattle.cie.specs.declared.Colour.{Colour}
use Rattle.trials.specs.Outcome.{TrialOutcome}
use Rattle.looks.specs.Look.{Sight}

-- "three counts", those of one table
pub record VerdictCounts : Type 0 where
  pub passed : ℕ
  pub failed : ℕ
  pub line : ℕ

-- "a report's tallies": "all eight sets", that of table 1 first
pub record ReportOutcome : Type 0 where
  pub sets : List VerdictCounts

-- "when refused, the cause; otherwise a standard's colour, a trial's colour, E and verdict, or a report's tallies"; and what a look
-- answers, which is its own: what it shows, or its cause
pub data Outcome : Type 0 where
  accepted : Outcome
  coloured : Colour → Outcome
  tried : TrialOutcome → Outcome
  counted : ReportOutcome → Outcome
  seen : Numbered Sight → Outcome
  refused : ℕ → Outcome
