-- `hue::plane::is_negative` meets its contract: two products of coordinates and their difference fit 64 bits. Assumes nothing.
use Rattle.std.proofs.Common.{ℤ, pos, ap}
use Rattle.std.specs.Int.Signed.{lt_z}
use Rattle.hue.proofs.Sizes.{made_fits, turn_is}
use Rattle.hue.proofs.plane.is_negative.Goals as goal

pub overflow_sub-result : goal.overflow_sub-result
overflow_sub-result c = made_fits c.requires.0 c.requires.1 c.product.ensures c.product-2.ensures

pub returns : goal.returns
returns c = ap (λ (z : ℤ). lt_z z (pos 0)) (turn_is c.requires.0 c.requires.1 c.product.ensures c.product-2.ensures)
