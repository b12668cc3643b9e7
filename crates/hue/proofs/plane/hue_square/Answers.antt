-- `hue::plane::hue_square` meets its contract: the squares of differences below 2^28 fit a word. Assumes nothing.
use Rattle.std.proofs.Common.{arith}
use Rattle.hue.proofs.Sizes.{squares_fit}
use Rattle.hue.proofs.plane.hue_square.Goals as goal

pub overflow_add-p : goal.overflow_add-p
overflow_add-p c = omega (arith, squares_fit c.requires.0 c.requires.1 c.apart_of-p.ensures c.apart_of-q.ensures c.distance_of-c.ensures)
