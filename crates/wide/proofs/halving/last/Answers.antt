-- `wide::halving::last` finds the last number that passes: each turn halves what is left between `lo` and a number above it.
use Rattle.std.proofs.Common.{inr, rules}
use Rattle.wide.proofs.Search.{upper_half, lower_half, told_last}
use Rattle.wide.proofs.halving.last.Goals as goal

pub loop-half-preserved-then-passes : goal.loop-half-preserved-then-passes
loop-half-preserved-then-passes g c = upper_half c.loop-half.invariant c.loop-half-test.true (inr c.if-passes.ensures)

pub loop-half-preserved : goal.loop-half-preserved
loop-half-preserved g c = lower_half c.loop-half.invariant c.loop-half-test.true (inr c.if-passes.ensures)

pub returns : goal.returns
returns g c = told_last c.loop-half.invariant (search rules)
