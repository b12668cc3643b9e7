-- The session that stands for a ledger: the one map from the ledger to the program. Assumes nothing.
use Rattle.std.specs.Prelude.{List, map, ℕ, Option, Some, None}
use Rattle.cie.specs.Sums.{Tables}
use Rattle.cie.specs.declared.Colour.{Colour}
use Rattle.cie.specs.Colour.{colour_at}
use Rattle.conditions.specs.declared.Conditions.{Conditions}
use Rattle.conditions.specs.Conditions.{conditions_of, no_conditions}
use Rattle.tallies.specs.declared.Tallies.{Tallies}
use Rattle.rules.specs.declared.Units.{Units}
use Rattle.rules.specs.Rules.{tolerance_of}
use Rattle.trials.specs.Outcome.{Amount}
use Rattle.session.specs.declared.Session.{Session}
use Rattle.session.specs.Outcome.{VerdictCounts}
use Rattle.session.specs.Ledger.{Held, none, held, is_held, Ledger}

abbrev pub held_conditions : Held Tables → Conditions
held_conditions none = no_conditions
held_conditions (held t) = conditions_of t

abbrev pub held_standard : Held Tables → Held (List ℕ) → Option Colour
held_standard none standard = None
held_standard (held t) none = None
held_standard (held t) (held readings) = Some (colour_at t readings)

abbrev pub held_tolerance : Held Amount → Option Units
held_tolerance none = None
held_tolerance (held a) = Some (tolerance_of a.space a.units)

abbrev pub tallies_of : VerdictCounts → Tallies
tallies_of n = record { passed = n.passed; failed = n.failed; line = n.line }

abbrev pub session_of : Ledger → Session
session_of l =
    record {
      conditions = held_conditions l.conditions;
      opened = is_held l.conditions;
      standard = held_standard l.conditions l.standard;
      tolerance = held_tolerance l.tolerance;
      tallies = record { sets = map tallies_of l.counts };
    }
