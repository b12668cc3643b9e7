-- The sum of a spectrum is at most twice the white's. Assumes nothing.
use Rattle.std.proofs.Common.{arith}
use Rattle.conditions.proofs.Measuring.{at_most_white}
use Rattle.conditions.proofs.measure.lightness_by.Goals as goal

pub lightness-requires : goal.lightness-requires
lightness-requires c =
    let p = c.requires in
    (p.3, omega (arith, c.sum_of.ensures, at_most_white p.0 p.1 p.2))
