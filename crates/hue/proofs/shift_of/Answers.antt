-- `hue::shift_of` meets its contract: both planes of a colour are of its size, and the rule is used in each. Assumes nothing.
use Rattle.hue.proofs.Sizes.{shift_is}
use Rattle.hue.proofs.shift_of.Goals as goal

pub returns : goal.returns
returns c =
    shift_is c.requires.0 c.requires.1 c.ab_of.ensures c.ab_of-2.ensures c.uv_of.ensures c.uv_of-2.ensures
    c.shift_in-ab.ensures c.shift_in-uv.ensures
