-- The sum so far and the rows that are left make the whole, and a sum of up to 81 rows fits. Assumes nothing.
use Rattle.std.proofs.Common.{arith}
use Rattle.conditions.proofs.Dots.{summed_fits, summed_more, summed_all}
use Rattle.conditions.proofs.weights.sum_of.Goals as goal

pub overflow_mul-sum : goal.overflow_mul-sum
overflow_mul-sum c = omega (arith, summed_fits c.requires.0 c.requires.1 c.loop-i.invariant (omega arith))

pub overflow_add-sum : goal.overflow_add-sum
overflow_add-sum c = omega (arith, summed_fits c.requires.0 c.requires.1 c.loop-i.invariant (omega arith))

pub loop-i-preserved : goal.loop-i-preserved
loop-i-preserved c = summed_more c.requires.0 c.requires.1 c.loop-i.invariant (omega arith)

pub returns : goal.returns
returns c = summed_all c.requires.0 c.requires.1 c.loop-i.invariant (omega arith)
