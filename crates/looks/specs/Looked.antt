-- What each look answers under conditions, by what stands beside them, refusals included. Assumes nothing.
use Rattle.std.specs.Prelude.{Result, Ok, Err}
use Rattle.causes.specs.declared.Cause.{Cause}
use Rattle.causes.specs.Causes.{Numbered, accepted, refusal, mapped}
use Rattle.conditions.specs.declared.Conditions.{Conditions}
use Rattle.trials.specs.declared.Standing.{Standing}
use Rattle.trials.specs.Tried.{trial_outcome, tried_by}
use Rattle.book_search.specs.Searching.{nearest_outcome, searched_under}
use Rattle.looks.specs.declared.Seen.{Seen}
use Rattle.looks.specs.declared.Seen.TheVariants.{Previewed, Nearest}
use Rattle.looks.specs.Look.{Look, preview, nearest, Sight, previewed, found}

-- what a look answers, in the paper's numbers and values
abbrev pub seen_answer : Result Seen Cause → Numbered Sight
seen_answer (Ok (Previewed t)) = accepted (previewed (trial_outcome t))
seen_answer (Ok (Nearest a)) = accepted (found (nearest_outcome a))
seen_answer (Err cause) = refusal cause

-- "Its colour, E, verdict or cause equal those of the trial": a preview is worked out as a trial is. A search needs no standard and no tolerance.
abbrev pub looked_by : Conditions → Standing → Look → Numbered Sight
looked_by c s (preview table readings) = mapped previewed (tried_by c s table readings)
looked_by c s (nearest budget swatch book) = mapped found (searched_under c s.opened budget swatch book)
