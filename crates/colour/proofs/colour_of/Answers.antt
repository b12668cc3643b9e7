-- `colour::colour_of` meets its contract: each part of the colour comes from the function that has that name. Assumes nothing.
use Rattle.colour.proofs.Extents.{colour_is}
use Rattle.colour.proofs.colour_of.Goals as goal

pub returns : goal.returns
returns c =
    colour_is c.args.white.sums c.args.sums c.requires.1 c.requires.2 _ _ _ _ _
    c.tristimulus_of.ensures c.chromaticity_of.ensures c.coordinates_of-c.ensures c.chroma.ensures c.chroma-2.ensures
