-- Document 02, "Chroma and hue difference": "The rule is argued for any pair of plane coordinates and used twice." Assumes nothing.
use Rattle.std.specs.Prelude.{cond, ℕ, ◌+◌, ◌-◌, ℤ, pos, neg_ℤ, nat_abs, ◌-ℤ◌, ◌*ℤ◌}
use Rattle.std.specs.Int.Signed.{lt_z}
use Rattle.wide.specs.Roots.{square_root}
use Rattle.signed.specs.Apart.{apart}
use Rattle.cie.specs.declared.Colour.{Colour}
use Rattle.cie.specs.Colour.{square}
use Rattle.hue.specs.declared.Shift.{Shift}
use Rattle.hue.specs.declared.plane.PlaneColour.{PlaneColour}

-- "trial minus standard. Chroma difference is the difference of the two chromas."
unfoldable pub chroma_difference : PlaneColour → PlaneColour → ℤ
chroma_difference standard trial = pos trial.chroma -ℤ pos standard.chroma

-- "the two squared plane differences less the squared chroma difference, 0 if that is negative", as the difference of two ℕ is
unfoldable pub hue_square : PlaneColour → PlaneColour → ℕ
hue_square standard trial =
    square (apart standard.p trial.p) + square (apart standard.q trial.q) - square (nat_abs (chroma_difference standard trial))

-- "The size of the hue difference is the square root, down," of that
abbrev pub hue_size : PlaneColour → PlaneColour → ℕ
hue_size standard trial = square_root (hue_square standard trial)

-- "a of the standard × b of the trial less a of the trial × b of the standard (u and v alike)"
unfoldable pub turn : PlaneColour → PlaneColour → ℤ
turn standard trial = standard.p *ℤ trial.q -ℤ trial.p *ℤ standard.q

-- a size with the sign of a number, "positive where that is 0"
abbrev pub with_sign : ℤ → ℕ → ℤ
with_sign z n = cond (lt_z z (pos 0)) (neg_ℤ (pos n)) (pos n)

-- "Its sign is that of" the turn
unfoldable pub hue_difference : PlaneColour → PlaneColour → ℤ
hue_difference standard trial = with_sign (turn standard trial) (hue_size standard trial)

-- the two planes of a colour, each with its chroma
abbrev pub ab_of : Colour → PlaneColour
ab_of c = record { p = c.a; q = c.b; chroma = c.cab }

abbrev pub uv_of : Colour → PlaneColour
uv_of c = record { p = c.u; q = c.v; chroma = c.cuv }

-- "gains both, in each space"
unfoldable pub shift_of : Colour → Colour → Shift
shift_of standard trial =
    record {
      dcab = record { 0 = chroma_difference (ab_of standard) (ab_of trial) };
      dhab = record { 0 = hue_difference (ab_of standard) (ab_of trial) };
      dcuv = record { 0 = chroma_difference (uv_of standard) (uv_of trial) };
      dhuv = record { 0 = hue_difference (uv_of standard) (uv_of trial) };
    }
