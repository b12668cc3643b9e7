-- Conditions of tables that pass all their checks are sound; the built-in lights pass them at both spacings. Assumes nothing.
use mathlib.Core.Path.{◌≡◌, refl, ◌∙◌, ap}
use mathlib.Core.Bool.{Bool, true, false, cond}
use mathlib.Core.Logic.{⊎_elim}
use mathlib.Core.List.{List, [], ◌∷◌}
use Prim.Native.Nat.{ℕ, zero, suc, ◌+◌, ◌*◌, ◌≤◌}
use native.Mathlib.Omega.{arith}
use lib.Dec.{eqb, lit≤}
use lib.ListN.{length, replicate}
use Rattle.std.specs.Prelude.{Ok}
use Rattle.causes.specs.Checks.{first_of}
use Rattle.causes.proofs.Checks.{clear_at}
use Rattle.cie.specs.declared.Sums.{Sums}
use Rattle.cie.specs.Spacing.{fine_spacing, coarse_spacing, unknown_spacing, most_rows, rows_at}
use Rattle.cie.specs.Scales.{white_reading, any_above}
use Rattle.cie.specs.Tables.{observer_x, observer_y, observer_z, illuminant_a, illuminant_d65}
use Rattle.cie.specs.Sums.{Tables, row_sum, sums_of, white_of}
use Rattle.cie.specs.Lights.{light_a, every_second, table_at, observed, light_tables}
use Rattle.cie.proofs.TableRows.{rows_few, spacing_known}
use Rattle.conditions.specs.Weights.{weights_of, dot, dots, white_readings, Weights}
use Rattle.conditions.specs.Checks.{table_checks}
use Rattle.conditions.specs.Conditions.{conditions_of, no_conditions, Sound}
use Rattle.conditions.proofs.Dots.{sums_same}
use Rattle.conditions.proofs.Fits.{fit, matched, weights_fit}

-- readings past the last row of an illuminant add nothing
row_white : (n : ℕ) (is cs : List ℕ) → length is ≤ n → row_sum (replicate n white_reading) is cs ≡ row_sum (replicate (length is) white_reading) is cs
unfolding row_sum
row_white zero [] cs h = refl
row_white (suc n) [] cs h = refl
row_white zero (i ∷ is) cs h = absurd (omega arith)
row_white (suc n) (i ∷ is) [] h = refl
row_white (suc n) (i ∷ is) (c ∷ cs) h = ap (λ (s : ℕ). white_reading * i * c + s) (row_white n is cs (omega arith))

-- the white by weights is the paper's
pub white_same : (t : Tables) → length t.illuminant ≤ most_rows →
    dots (weights_of t.illuminant t.x) (weights_of t.illuminant t.y) (weights_of t.illuminant t.z) white_readings ≡ white_of t
unfolding sums_of white_of
white_same t h =
    let i = t.illuminant in
    sums_same t white_readings
    ∙ rw (row_white most_rows i t.x h, row_white most_rows i t.y h, row_white most_rows i t.z h)

pub sound_tables : (t : Tables) → first_of (table_checks t) ≡ Ok tt → Sound (conditions_of t)
sound_tables t e =
    let f = fit t (clear_at _ e 1) (clear_at _ e 2) in
    let i = f.illuminant in
    let w = white_same t (matched t.spacing i f.x).0 in
    record {
      few = rows_few t.spacing;
      weights_x = weights_fit t.spacing i f.x;
      weights_y = weights_fit t.spacing i f.y;
      weights_z = weights_fit t.spacing i f.z;
      least_x = omega (arith, ap (λ (s : Sums). s.x) w);
      least_y = omega (arith, ap (λ (s : Sums). s.y) w);
      least_z = omega (arith, ap (λ (s : Sums). s.z) w);
      point = refl;
      white = record { lit = clear_at _ e 3; even = clear_at _ e 4 };
    }

pub sound_none : Sound no_conditions
unfolding no_conditions any_above dot
sound_none =
    let w : Weights (replicate most_rows 0) = record { length_is = refl; scale = refl } in
    record {
      few = lit≤ tt;
      weights_x = w;
      weights_y = w;
      weights_z = w;
      least_x = omega arith;
      least_y = omega arith;
      least_z = omega arith;
      point = refl;
      white = record { lit = refl; even = refl };
    }

-- the tables of A, or of D65, at a spacing
abbrev built_in : Bool → ℕ → Tables
built_in a spacing = observed spacing (table_at spacing (cond a illuminant_a illuminant_d65))

clear_of : (a b : Bool) → first_of (table_checks (built_in a (cond b fine_spacing coarse_spacing))) ≡ Ok tt
unfolding first_of any_above white_of sums_of row_sum rows_at table_at every_second illuminant_a illuminant_d65 observer_x observer_y observer_z
clear_of true true = refl
clear_of true false = refl
clear_of false true = refl
clear_of false false = refl

-- the built-in lights pass all the checks of tables
pub light_clear : (light spacing : ℕ) → unknown_spacing spacing ≡ false → first_of (table_checks (light_tables light spacing)) ≡ Ok tt
light_clear light spacing h =
    ⊎_elim (λ e. rw e (clear_of (eqb light light_a) true)) (λ e. rw e (clear_of (eqb light light_a) false)) (spacing_known spacing h)

pub sound_light : (light spacing : ℕ) → unknown_spacing spacing ≡ false → Sound (conditions_of (light_tables light spacing))
sound_light light spacing h = sound_tables (light_tables light spacing) (light_clear light spacing h)
