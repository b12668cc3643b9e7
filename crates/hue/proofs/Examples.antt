-- Chroma and hue differences worked by evaluation. Assumes nothing.
use mathlib.Core.Path.{◌≡◌, refl}
use mathlib.Core.List.{List, [], ◌∷◌}
use Prim.Native.Nat.{ℕ}
use lib.IntN.{ℤ, pos, neg_ℤ}
use Rattle.wide.specs.Roots.{square_root, greatest, climb, next_bit}
use Rattle.std.specs.Prelude.{None}
use Rattle.cie.specs.declared.Colour.{Colour}
use Rattle.cie.specs.Colour.{chroma}
use Rattle.hue.specs.declared.plane.PlaneColour.{PlaneColour}
use Rattle.hue.specs.declared.Shift.{Shift}
use Rattle.hue.specs.Hue.{chroma_difference, hue_square, turn, hue_difference, shift_of}

abbrev negative : ℕ → ℤ
negative n = neg_ℤ (pos n)

abbrev at : ℤ → ℤ → PlaneColour
at p q = record { p = p; q = q; chroma = chroma p q }

abbrev told : PlaneColour → PlaneColour → List ℤ
told standard trial = chroma_difference standard trial ∷ hue_difference standard trial ∷ []

-- a colour of these coordinates; what else it has does not count
abbrev coloured : (a b u v : ℤ) → Colour
coloured a b u v =
    record {
      tristimulus = record { x = 0; y = 0; z = 0 };
      chromaticity = None;
      l = 0;
      a = a;
      b = b;
      u = u;
      v = v;
      cab = chroma a b;
      cuv = chroma u v;
    }

abbrev told_of : Shift → List ℤ
told_of d = d.dcab.0 ∷ d.dhab.0 ∷ d.dcuv.0 ∷ d.dhuv.0 ∷ []

abbrev results : List (List ℤ)
results =
    -- the root of 50, down, on either side
    told (at (pos 3) (pos 4)) (at (negative 4) (pos 3))
    ∷ told (at (negative 4) (pos 3)) (at (pos 3) (pos 4))
    -- opposite hues: the turn is 0
    ∷ told (at (pos 5) (pos 0)) (at (negative 5) (pos 0))
    -- the same hue
    ∷ told (at (pos 3) (pos 4)) (at (pos 6) (pos 8))
    -- 8 less 9 is negative
    ∷ told (at (pos 1) (pos 1)) (at (pos 3) (pos 3))
    -- 8 less 9 again, with a turn below 0
    ∷ told (at (pos 1) (pos 2)) (at (pos 3) (pos 4))
    -- from a grey
    ∷ told (at (pos 0) (pos 0)) (at (pos 7) (negative 24))
    -- products beyond 32 bits
    ∷ told (at (pos 60000000) (pos 9000000)) (at (pos 9000000) (negative 10000000))
    -- a, b turn one way, and u, v the other
    ∷ told_of (shift_of (coloured (pos 3) (pos 4) (negative 4) (pos 3)) (coloured (negative 4) (pos 3) (pos 3) (pos 4)))
    ∷ []

pub worked : results
    ≡ (pos 0 ∷ pos 7 ∷ [])
    ∷ (pos 0 ∷ negative 7 ∷ [])
    ∷ (pos 0 ∷ pos 10 ∷ [])
    ∷ (pos 5 ∷ pos 0 ∷ [])
    ∷ (pos 3 ∷ pos 0 ∷ [])
    ∷ (pos 3 ∷ pos 0 ∷ [])
    ∷ (pos 25 ∷ pos 0 ∷ [])
    ∷ (negative 47217621 ∷ negative 27064668 ∷ [])
    ∷ (pos 0 ∷ pos 7 ∷ pos 0 ∷ negative 7 ∷ [])
    ∷ []
unfolding chroma chroma_difference hue_square turn hue_difference shift_of square_root greatest climb next_bit
worked = refl
