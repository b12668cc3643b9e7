-- The sums so far and the rows that are left make the whole, and a sum of up to 81 rows fits. Assumes nothing.
use Rattle.std.proofs.Common.{arith}
use Rattle.conditions.proofs.Dots.{begun_fits, begun_more}
use Rattle.conditions.proofs.weights.with_rows.Goals as goal

pub with_row-sums-requires : goal.with_row-sums-requires
with_row-sums-requires c = begun_fits c.loop-row.invariant (omega (arith, c.requires.1))

pub loop-row-preserved : goal.loop-row-preserved
loop-row-preserved c = begun_more c.loop-row.invariant (omega (arith, c.requires.1)) c.with_row-sums.ensures (omega arith)
