-- Document 01, "Colour", sentence by sentence, with the constants of document 02, Job 5. N stands for X, Y or Z of the sample s and D for that
-- of the white w in the same place. Every value that the exact difference needs is defined at a scale M; M = 1 is the colour's. Native `/` is
-- "down". Assumes nothing.
use Rattle.std.specs.Prelude.{Bool, cond, List, Option, Some, None, ℕ, ◌+◌, ◌*◌, ◌-◌, ◌/◌, ltb, eqb, ℤ, pos, nat_abs, ◌-ℤ◌, ◌*ℤ◌}
use Rattle.std.specs.Int.Signed.{quot_z}
use Rattle.wide.specs.Roots.{square_root, cube_root}
use Rattle.signed.specs.Apart.{distance, apart}
use Rattle.cie.specs.declared.Sums.{Sums}
use Rattle.cie.specs.declared.Tristimulus.{Tristimulus}
use Rattle.cie.specs.declared.Chromaticity.{Chromaticity}
use Rattle.cie.specs.declared.Colour.{Colour}
use Rattle.cie.specs.declared.LabUnits.{LabUnits}
use Rattle.cie.specs.declared.LuvUnits.{LuvUnits}
use Rattle.cie.specs.Sums.{Tables, sums_of, white_of}

-- "Tristimulus: 1,000,000 × N / Yn, down."
abbrev pub tristimulus_scale : ℕ
tristimulus_scale = 1000000

unfoldable pub tristimulus_of : Sums → Sums → Tristimulus
tristimulus_of w s =
    record { x = tristimulus_scale * s.x / w.y; y = tristimulus_scale * s.y / w.y; z = tristimulus_scale * s.z / w.y }

-- "Chromaticity x, y: 1,000,000 × X (or Y) / (X+Y+Z), down; "none" when X+Y+Z is 0."
abbrev pub chromaticity_scale : ℕ
chromaticity_scale = 1000000

abbrev pub xy_under : Sums → ℕ
xy_under s = s.x + s.y + s.z

unfoldable pub chromaticity_of : Sums → Option Chromaticity
chromaticity_of s =
    cond (eqb (xy_under s) 0) None (Some (record { x = chromaticity_scale * s.x / xy_under s; y = chromaticity_scale * s.y / xy_under s }))

-- CIE 15:2004: "The limit becomes (24/116)³", which is 216/24389
abbrev pub limit_over : ℕ
limit_over = 216

abbrev pub limit_under : ℕ
limit_under = 24389

-- whether N/D is above the limit
abbrev pub bright : ℕ → ℕ → Bool
bright N D = ltb (limit_over * D) (limit_under * N)

-- "the straight piece of f becomes (841/108) × N/D + 16/116": its slope, and the numbers of 16/116, which L* has too
abbrev pub slope_over : ℕ
slope_over = 841

abbrev pub slope_under : ℕ
slope_under = 108

abbrev pub offset : ℕ
offset = 16

abbrev pub gain : ℕ
gain = 116

-- the straight piece as one fraction
abbrev pub straight_over : ℕ → ℕ → ℕ
straight_over N D = slope_over * gain * N + offset * slope_under * D

abbrev pub straight_under : ℕ → ℕ
straight_under D = slope_under * gain * D

-- K times it, down
abbrev pub straight_at : ℕ → ℕ → ℕ → ℕ
straight_at K N D = K * straight_over N D / straight_under D

-- K × f(N/D), down: "the cube root of N/D" above the limit, else the straight piece
abbrev pub f_at : ℕ → ℕ → ℕ → ℕ
f_at K N D = cond (bright N D) (cube_root K N D) (straight_at K N D)

-- "pX, pY, pZ are 1,000,000 × f, down, decided by comparing cubes."
abbrev pub step_scale : ℕ
step_scale = 1000000

unfoldable pub step_at : ℕ → ℕ → ℕ → ℕ
step_at M N D = f_at (M * step_scale) N D

-- "L: 10,000 × L*, down"; "L* is 116 × f(Y/Yn) − 16 on both sides". Since 10,000 × 16 is whole, 10,000 × (116 × f − 16), down, is
-- 10,000 × 116 × f, down, less 10,000 × 16.
abbrev pub lightness_scale : ℕ
lightness_scale = 10000

unfoldable pub lightness_at : ℕ → ℕ → ℕ → ℕ
lightness_at M N D = f_at (M * (lightness_scale * gain)) N D - M * (lightness_scale * offset)

abbrev pub l_at : ℕ → Sums → Sums → ℕ
l_at M w s = lightness_at M s.y w.y

-- "a = 5 × (pX − pY). b = 2 × (pY − pZ). Both count 1/10,000."
abbrev pub a_factor : ℕ
a_factor = 5

abbrev pub b_factor : ℕ
b_factor = 2

unfoldable pub a_at : ℕ → Sums → Sums → ℤ
a_at M w s = pos a_factor *ℤ (pos (step_at M s.x w.x) -ℤ pos (step_at M s.y w.y))

unfoldable pub b_at : ℕ → Sums → Sums → ℤ
b_at M w s = pos b_factor *ℤ (pos (step_at M s.y w.y) -ℤ pos (step_at M s.z w.z))

-- "u' = 4X / (X+15Y+3Z), v' = 9Y / (X+15Y+3Z), each × 10,000,000, down; primed n values from Xn, Yn, Zn."
abbrev pub u_over : Sums → ℕ
u_over s = 4 * s.x

abbrev pub v_over : Sums → ℕ
v_over s = 9 * s.y

abbrev pub uv_under : Sums → ℕ
uv_under s = s.x + 15 * s.y + 3 * s.z

abbrev pub prime_scale : ℕ
prime_scale = 10000000

abbrev pub prime : ℕ → ℕ → ℕ
prime A S = prime_scale * A / S

-- "u = 13 × L × (u' − u'n) / 10,000,000, rounded towards zero, v likewise. If X+15Y+3Z is 0, u and v are 0."
-- Here u' is A / S and u'n is B / W.
abbrev pub uv_factor : ℕ
uv_factor = 13

unfoldable pub coordinate : (L A S B W : ℕ) → ℤ
coordinate L A S B W = cond (eqb S 0) (pos 0) (quot_z (pos (uv_factor * L) *ℤ (pos (prime A S) -ℤ pos (prime B W))) (pos prime_scale))

unfoldable pub u_of : Sums → Sums → ℤ
u_of w s = coordinate (l_at 1 w s) (u_over s) (uv_under s) (u_over w) (uv_under w)

unfoldable pub v_of : Sums → Sums → ℤ
v_of w s = coordinate (l_at 1 w s) (v_over s) (uv_under s) (v_over w) (uv_under w)

abbrev pub square : ℕ → ℕ
square n = n * n

-- "Chroma in each space: the square root of a²+b², or u²+v², down."
unfoldable pub chroma : ℤ → ℤ → ℕ
chroma p q = square_root (square (nat_abs p) + square (nat_abs q))

-- "A colour is the tristimulus values, x, y, L, a, b, u, v and both chromas": that of sums s under the white w
unfoldable pub colour_of : Sums → Sums → Colour
colour_of w s =
    record {
      tristimulus = tristimulus_of w s;
      chromaticity = chromaticity_of s;
      l = l_at 1 w s;
      a = a_at 1 w s;
      b = b_at 1 w s;
      u = u_of w s;
      v = v_of w s;
      cab = chroma (a_at 1 w s) (b_at 1 w s);
      cuv = chroma (u_of w s) (v_of w s);
    }

-- the colour of a spectrum under tables
abbrev pub colour_at : Tables → List ℕ → Colour
colour_at t readings = colour_of (white_of t) (sums_of t readings)

abbrev pub squares : ℕ → ℕ → ℕ → ℕ
squares x y z = square x + square y + square z

-- "Difference E in CIELAB: the square root of the three squared differences of L, a, b, down. In CIELUV: of L, u, v."
unfoldable pub lab_difference : Colour → Colour → LabUnits
lab_difference p q = record { 0 = square_root (squares (distance p.l q.l) (apart p.a q.a) (apart p.b q.b)) }

unfoldable pub luv_difference : Colour → Colour → LuvUnits
luv_difference p q = record { 0 = square_root (squares (distance p.l q.l) (apart p.u q.u) (apart p.v q.v)) }
