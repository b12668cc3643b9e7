-- The sums are ready for their coordinates beside the light's white. Assumes nothing.
use Rattle.lights.proofs.LightWhites.{ready_in}
use Rattle.lights.proofs.coordinates_in.Goals as goal

pub coordinates_of-requires : goal.coordinates_of-requires
coordinates_of-requires c =
    ready_in c.args.light c.args.spacing c.args.readings.now c.white_in.ensures c.sums_in-sums.ensures c.requires.2 c.requires.0
