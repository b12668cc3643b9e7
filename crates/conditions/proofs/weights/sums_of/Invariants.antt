-- What is kept: the sums are those of the rows of the turns before this one. Assumes nothing.
use Rattle.std.proofs.Common.{◌*◌}
use Rattle.conditions.specs.declared.weights.TheConstants.{TURN}
use Rattle.conditions.specs.Weights.{Begun}
use Rattle.conditions.proofs.weights.sums_of.Given as goal

abbrev pub invariant-loop-turn : goal.invariant-loop-turn
invariant-loop-turn l = Begun l.readings l.weights.x.now l.weights.y.now l.weights.z.now l.sums (TURN * l.turn)
