-- `colour::difference::luv_difference` meets its contract: the coordinates of a colour are small enough that the squares add up to one word.
-- Assumes nothing.
use Rattle.std.proofs.Common.{ℕ, ap}
use Rattle.cie.specs.Colour.{luv_difference}
use Rattle.colour.proofs.Extents.{luv_within, squares_fit}
use Rattle.colour.proofs.difference.luv_difference.Goals as goal

pub length_between-requires : goal.length_between-requires
length_between-requires c = rw (c.luv_place.ensures, c.luv_place-2.ensures) (squares_fit (luv_within c.requires.0) (luv_within c.requires.1))

pub returns : goal.returns
unfolding luv_difference
returns c = ap (λ (n : ℕ). record { 0 = n }) (rw (c.luv_place.ensures, c.luv_place-2.ensures) at c.length_between.ensures)
