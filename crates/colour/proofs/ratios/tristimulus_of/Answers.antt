-- `colour::ratios::tristimulus_of` meets its contract: no sum of the sample is above 20 times the white's Y, so no ratio is above 20,000,000.
-- Assumes nothing.
use Rattle.std.proofs.Common.{ap}
use Rattle.wide.specs.Words.{value}
use Rattle.colour.proofs.Fractions.{tristimulus_is}
use Rattle.colour.proofs.ratios.tristimulus_of.Goals as goal

pub returns : goal.returns
returns c = tristimulus_is c.args.w c.args.s _ _ _ _ (ap value c.from-yn.ensures) c.ratio.ensures.0 c.ratio-2.ensures.0 c.ratio-3.ensures.0
