-- The white of a built-in light, by whether the light is A and the spacing 10 nm, so that it can be evaluated; and sums beside it, which are ready
-- for their coordinates. Assumes nothing.
use mathlib.Core.Path.{◌≡◌, refl, ◌∙◌}
use mathlib.Core.Bool.{Bool, false, cond}
use mathlib.Core.List.{List}
use Prim.Native.Nat.{ℕ}
use lib.Dec.{eqb}
use Rattle.cie.specs.declared.Sums.{Sums}
use Rattle.cie.specs.Spacing.{coarse_spacing, unknown_spacing}
use Rattle.cie.specs.Tables.{observer_x, observer_y, observer_z, illuminant_a, illuminant_d65}
use Rattle.cie.specs.Sums.{Tables, tables_of, sums_of, white_of, White, AtMostTwice}
use Rattle.cie.specs.Lights.{light_a, every_second, table_at, light_tables}
use Rattle.cie.specs.Colour.{colour_of, colour_at}
use Rattle.colour.specs.declared.white.WhitePoint.{WhitePoint}
use Rattle.colour.specs.declared.Coordinates.{Coordinates}
use Rattle.colour.specs.White.{white_point_of}
use Rattle.colour.specs.Coordinates.{coordinates_in}
use Rattle.conditions.specs.Weights.{Spectrum}
use Rattle.conditions.proofs.Dots.{at_most_twice}
use Rattle.conditions.proofs.Sound.{sound_light}

abbrev rows : Bool → List ℕ → List ℕ
rows coarse table = cond coarse (every_second table) table

abbrev tables : Bool → Bool → Tables
tables a coarse = tables_of 0 (rows coarse (cond a illuminant_a illuminant_d65)) (rows coarse observer_x) (rows coarse observer_y) (rows coarse observer_z)

pub white_by : (light spacing : ℕ) {a coarse : Bool} → eqb light light_a ≡ a → eqb spacing coarse_spacing ≡ coarse →
    white_point_of (white_of (tables a coarse)) ≡ white_point_of (white_of (light_tables light spacing))
unfolding table_at sums_of white_of
white_by light spacing e f = rw (e, f)

-- the white and the sums of a spectrum under a light, as a program has them
module _ (light spacing : ℕ) (readings : List ℕ) {w : WhitePoint} {s : Sums}
    (e : w ≡ white_point_of (white_of (light_tables light spacing))) (f : s ≡ sums_of (light_tables light spacing) readings) where
  pub ready_in : unknown_spacing spacing ≡ false → Spectrum readings → (w ≡ white_point_of w.sums) × White w.sums × AtMostTwice w.sums s
  ready_in h r = rw (e, f) (refl, (sound_light light spacing h).white, at_most_twice (light_tables light spacing) readings r.scale)

  pub coordinates_by : {c : Coordinates} → c ≡ coordinates_in (colour_of w.sums s) → c ≡ coordinates_in (colour_at (light_tables light spacing) readings)
  coordinates_by k = k ∙ rw (e, f)
