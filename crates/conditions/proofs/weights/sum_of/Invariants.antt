-- What is kept: the sum so far and the rows that are left make the whole. Assumes nothing.
use Rattle.conditions.specs.Weights.{Summed}
use Rattle.conditions.proofs.weights.sum_of.Given as goal

abbrev pub invariant-loop-i : goal.invariant-loop-i
invariant-loop-i l = Summed l.readings l.ws l.sum l.i
