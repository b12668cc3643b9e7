-- What a host is told of a colour. Assumes nothing.
use Rattle.cie.specs.declared.Colour.{Colour}
use Rattle.colour.specs.declared.Coordinates.{Coordinates}

-- "L, a, b, u, v"
abbrev pub coordinates_in : Colour → Coordinates
coordinates_in c = record { l = c.l; a = c.a; b = c.b; u = c.u; v = c.v }
