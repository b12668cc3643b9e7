-- The turns and the rows after them are all the rows, each in its place. Assumes nothing.
use Rattle.std.proofs.Common.{arith}
use Rattle.conditions.proofs.Dots.{begun_all}
use Rattle.conditions.proofs.weights.sums_of.Goals as goal

pub returns : goal.returns
returns c = begun_all c.with_rows.ensures (omega arith)
