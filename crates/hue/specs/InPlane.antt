-- How large the coordinates and the chroma of a colour are in either plane: below 2^27. Assumes nothing.
use Rattle.std.specs.Prelude.{◌^◌, ◌<◌, nat_abs}
use Rattle.hue.specs.declared.plane.PlaneColour.{PlaneColour}

pub record InPlane (c : PlaneColour) : Type 0 where
  pub p : nat_abs c.p < 2 ^ 27
  pub q : nat_abs c.q < 2 ^ 27
  pub chroma : c.chroma < 2 ^ 27
