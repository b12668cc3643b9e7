-- The white beside which a colour is found. Assumes nothing.
use Rattle.cie.specs.declared.Sums.{Sums}
use Rattle.cie.specs.Colour.{u_over, v_over, uv_under, prime}
use Rattle.colour.specs.declared.white.WhitePoint.{WhitePoint}

-- the white's sums with its u' and v': "primed n values from Xn, Yn, Zn"
abbrev pub white_point_of : Sums → WhitePoint
white_point_of w = record { sums = w; u = prime (u_over w) (uv_under w); v = prime (v_over w) (uv_under w) }
