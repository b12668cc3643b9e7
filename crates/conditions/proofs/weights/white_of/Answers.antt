-- The white's readings are a spectrum. Assumes nothing.
use Rattle.std.proofs.Common.{refl}
use lib.Dec.{lit≤}
use Rattle.cie.specs.Scales.{any_above}
use Rattle.conditions.proofs.weights.white_of.Goals as goal

pub sums_of-requires : goal.sums_of-requires
unfolding any_above
sums_of-requires c = record { few = lit≤ tt; scale = refl }
