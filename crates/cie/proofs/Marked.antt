-- The marked examples of document 01, its four groups with the figures of document 02, Job 5, evaluated on the definitions in one sweep.
-- Assumes nothing.
use mathlib.Core.Path.{◌≡◌, refl}
use mathlib.Core.List.{List, [], ◌∷◌}
use Prim.Native.Nat.{ℕ}
use lib.IntN.{ℤ, pos, negsuc}
use lib.ListN.{replicate}
unfoldable pub use Rattle.wide.specs.Roots.{square_root, cube_root, greatest, climb, next_bit}
use Rattle.cie.specs.declared.Chromaticity.{Chromaticity}
use Rattle.std.specs.Prelude.{Option, Some}
use Rattle.cie.specs.declared.Colour.{Colour}
use Rattle.cie.specs.declared.Space.TheVariants.{Cielab}
use Rattle.cie.specs.declared.Verdict.{Verdict}
use Rattle.cie.specs.declared.Verdict.TheVariants.{Pass, Fail, OnTheLine}
use Rattle.cie.specs.Spacing.{fine_spacing}
use Rattle.cie.specs.Sums.{Tables, tables_of, row_sum, sums_of, white_of}
use Rattle.cie.specs.Colour.{chromaticity_of, step_at, lightness_at, l_at, a_at, b_at, coordinate, u_of, v_of, chroma, colour_of, lab_difference}
use Rattle.cie.specs.Verdict.{margin, verdict_of}

pub data Value : Type 0 where
  count : ℕ → Value
  signed : ℤ → Value
  place : Option Chromaticity → Value
  verdict : Verdict → Value

-- group 3: "Illuminant 1 in the first three rows, else 0; x, y, z each 1 in row one, two, three respectively, else 0"
abbrev conditions : Tables
conditions = tables_of fine_spacing (1 ∷ 1 ∷ 1 ∷ replicate 78 0) (1 ∷ replicate 80 0) (0 ∷ 1 ∷ replicate 79 0) (0 ∷ 0 ∷ 1 ∷ replicate 78 0)

abbrev colour : List ℕ → Colour
colour readings = colour_of (white_of conditions) (sums_of conditions readings)

-- "readings 10000, 1250, 270, else 0"
abbrev sample : Colour
sample = colour (10000 ∷ 1250 ∷ 270 ∷ replicate 78 0)

-- group 4: "standard all 1250, trial all 270"
abbrev E : ℕ
E = (lab_difference (colour (replicate 81 1250)) (colour (replicate 81 270))).0

-- group 2: L of a sample whose Y is N, beside a white whose Yn is D
abbrev L : ℕ → ℕ → ℕ
L N D = l_at 1 (record { x = D; y = D; z = D }) (record { x = N; y = N; z = N })

-- and of our own: a ratio below the limit and one above it, where the other piece of f would give 206895 and 206899
abbrev beside : List Value
beside = count (step_at 1 8431 951969) ∷ count (step_at 1 3338 376887) ∷ []

pub sweep : List Value
sweep =
    count (step_at 1 0 1)
    ∷ count (step_at 1 8856 1000000)
    ∷ count (step_at 1 8857 1000000)
    ∷ count (step_at 1 1 8)
    ∷ count (step_at 1 2 1)
    ∷ count (L 1 1000)
    ∷ count (L 8856 1000000)
    ∷ count (L 216 24389)
    ∷ count (L 8857 1000000)
    ∷ count (L 1 1)
    ∷ count (L 2 1)
    ∷ count sample.l
    ∷ signed sample.a
    ∷ signed sample.b
    ∷ signed sample.u
    ∷ signed sample.v
    ∷ place sample.chromaticity
    ∷ count sample.cab
    ∷ count E
    ∷ verdict (verdict_of (margin Cielab) E 232012)
    ∷ verdict (verdict_of (margin Cielab) E 232011)
    ∷ verdict (verdict_of (margin Cielab) E 231989)
    ∷ verdict (verdict_of (margin Cielab) E 231988)
    ∷ beside

-- negsuc n is −(n + 1)
pub marked : sweep ≡
    count 137931
    ∷ count 206893
    ∷ count 206900
    ∷ count 500000
    ∷ count 1259921
    ∷ count 9032
    ∷ count 79995
    ∷ count 80000
    ∷ count 80004
    ∷ count 1000000
    ∷ count 1301508
    ∷ count 420000
    ∷ signed (pos 2500000)
    ∷ signed (pos 400000)
    ∷ signed (pos 6238888)
    ∷ signed (negsuc 508338)
    ∷ place (Some (record { x = 868055; y = 108506 }))
    ∷ count 2531797
    ∷ count 232000
    ∷ verdict Pass
    ∷ verdict OnTheLine
    ∷ verdict OnTheLine
    ∷ verdict Fail
    ∷ count 206896
    ∷ count 206898
    ∷ []
unfolding sweep row_sum sums_of white_of colour_of chromaticity_of step_at lightness_at a_at b_at u_of v_of coordinate chroma lab_difference
    square_root cube_root greatest climb next_bit
marked = refl
