-- `colour::ratios::chromaticity_of` meets its contract: where X + Y + Z is not 0, neither X nor Y is above it. Assumes nothing.
use Rattle.colour.proofs.Fractions.{no_chromaticity, chromaticity_is}
use Rattle.colour.proofs.ratios.chromaticity_of.Goals as goal

pub returns-then-is_zero : goal.returns-then-is_zero
returns-then-is_zero c = no_chromaticity c.args.s _ c.xy_under-sum.ensures _ c.is_zero.ensures c.if-is_zero.true

pub returns : goal.returns
returns c =
    chromaticity_is c.args.s _ c.xy_under-sum.ensures _ c.is_zero.ensures c.if-is_zero.false _ _ c.ratio.ensures.0 c.ratio-2.ensures.0
