-- `wide::halving::last` finds the last number that passes: each turn halves what is left between `lo` and a number above it.
use Rattle.std.proofs.Common.{◌^◌}
use Rattle.wide.proofs.Search.{BetweenTold}
use Rattle.wide.proofs.halving.last.Given as goal

abbrev pub invariant-loop-half : goal.invariant-loop-half
invariant-loop-half g l = BetweenTold (goal.F-post g l.passes) (2 ^ l.bits) l.lo l.half

abbrev pub decreases-loop-half : goal.decreases-loop-half
decreases-loop-half g l = l.half
