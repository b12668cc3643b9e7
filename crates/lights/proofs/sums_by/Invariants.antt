-- What is kept: the sums so far and the rows that are left make the whole, by weights at the rows of the spacing. Assumes nothing.
use Rattle.conditions.specs.Weights.{Begun}
use Rattle.lights.proofs.LightRows.{weights_at}
use Rattle.lights.proofs.sums_by.Given as goal

abbrev pub invariant-loop-i : goal.invariant-loop-i
invariant-loop-i l =
    let at = weights_at l.fn.spacing l.illuminant in
    Begun l.readings (at l.x) (at l.y) (at l.z) l.sums l.i
