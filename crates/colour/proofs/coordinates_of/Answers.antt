-- `colour::coordinates_of` meets its contract: each coordinate comes from the function that has its name. Assumes nothing.
use Rattle.colour.proofs.Extents.{coordinates_are}
use Rattle.colour.proofs.coordinates_of.Goals as goal

pub returns : goal.returns
returns c =
    coordinates_are c.args.white.sums c.args.sums c.requires.1 c.requires.2 _ _ _ _ _
    c.lightness_of-y.ensures.1 c.ab_of-ab.ensures c.uv_of-uv.ensures
