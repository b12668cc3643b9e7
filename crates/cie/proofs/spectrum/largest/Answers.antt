-- Each turn passes one reading. At the end none is left. Assumes nothing.
use Rattle.std.proofs.Common.{◌∙◌, arith, rules}
use Rattle.cie.proofs.Scales.{largest_more, largest_passed}
use Rattle.cie.proofs.spectrum.largest.Goals as goal

pub loop-i-preserved : goal.loop-i-preserved
loop-i-preserved c = largest_more c.args.readings.now c.loop-i.top c.loop-i.i (omega arith) (search rules) ∙ c.loop-i.invariant

pub returns : goal.returns
returns c = largest_passed c.args.readings.now c.loop-i.top c.loop-i.i (omega arith) c.loop-i.invariant
