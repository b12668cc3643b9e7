-- The sums of the rows before this one. Assumes nothing.
use Rattle.conditions.specs.Weights.{Begun}
use Rattle.conditions.proofs.weights.with_rows.Given as goal

abbrev pub invariant-loop-row : goal.invariant-loop-row
invariant-loop-row l = Begun l.readings l.x l.y l.z l.sums l.row
