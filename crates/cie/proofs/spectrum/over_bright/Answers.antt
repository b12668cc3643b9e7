-- The largest reading decides. Assumes nothing.
use Rattle.std.proofs.Common.{ap, ◌∙◌, ltb}
use Rattle.cie.proofs.Scales.{largest_decides}
use Rattle.cie.proofs.spectrum.over_bright.Goals as goal

pub returns : goal.returns
returns c = ap (ltb c.args.limit) c.largest.ensures ∙ largest_decides c.args.limit c.args.readings.now
