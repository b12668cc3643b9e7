-- The sums of a spectrum are ready for their colour. Assumes nothing.
use Rattle.conditions.proofs.Measuring.{sums_ready}
use Rattle.conditions.proofs.measure.colour_by.Goals as goal

pub colour_of-requires : goal.colour_of-requires
colour_of-requires c = sums_ready c.args.lent.sound c.requires c.sums_of.ensures
