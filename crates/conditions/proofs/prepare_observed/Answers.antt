-- The fronts of the arrays are the tables at the spacing. Assumes nothing.
use Rattle.std.proofs.Common.{ap}
use Rattle.conditions.specs.Conditions.{prepared_of}
use Rattle.conditions.proofs.Opening.{lent}
use Rattle.conditions.proofs.Answers.{prepares_as}
use Rattle.conditions.proofs.prepare_observed.Goals as goal

pub returns : goal.returns
returns c =
    let a = c.args in
    prepares_as
    (ap prepared_of (lent a.spacing a.illuminant c.rows_at-rows.ensures.0 c.observer_x-x.ensures c.observer_y-y.ensures c.observer_z-z.ensures))
    c.prepare.ensures
