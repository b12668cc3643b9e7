-- Document 02: the calls that only look, each with its arguments other than the session, and what they show. Assumes nothing.
use Rattle.std.specs.Prelude.{List, ℕ}
use Rattle.nearest.specs.Rule.{NearestOutcome}
use Rattle.trials.specs.Outcome.{TrialOutcome}

-- "Add a preview of a trial.", for the table that it names; "Nearest shade in the time there is.": the budget, the swatch's readings, and the
-- bytes of the book
pub data Look : Type 0 where
  preview : ℕ → List ℕ → Look
  nearest : ℕ → List ℕ → List ℕ → Look

-- what an accepted look shows: "Its colour, E, verdict"; "the number of full comparisons made, the best shade .. and a gap"
pub data Sight : Type 0 where
  previewed : TrialOutcome → Sight
  found : NearestOutcome → Sight
