-- What an opening prepares of tables that pass their checks. Assumes nothing.
use Rattle.std.specs.Prelude.{◌≡◌, List, ℕ, ◌≤◌, replicate, Result, IfOk}
use Rattle.causes.specs.declared.Cause.{Cause}
use Rattle.causes.specs.Causes.{Numbered, answer_of}
use Rattle.causes.specs.Checks.{first_of, numbered}
use Rattle.cie.specs.Spacing.{most_rows, rows_at}
use Rattle.cie.specs.Scales.{white_reading}
use Rattle.cie.specs.Sums.{Tables, white_of, White}
use Rattle.cie.specs.Lights.{light_tables}
use Rattle.colour.specs.declared.white.WhitePoint.{WhitePoint}
use Rattle.colour.specs.White.{white_point_of}
use Rattle.conditions.specs.declared.Conditions.{Conditions}
use Rattle.conditions.specs.Weights.{weights_of, dot, white_readings, Weights}
use Rattle.conditions.specs.Checks.{table_checks, light_checks}

-- what is prepared of tables that pass
abbrev pub conditions_of : Tables → Conditions
conditions_of t =
    record {
      rows = rows_at t.spacing;
      x = weights_of t.illuminant t.x;
      y = weights_of t.illuminant t.y;
      z = weights_of t.illuminant t.z;
      white = white_point_of (white_of t);
    }

-- conditions whose weights are lent
abbrev pub conditions_by : ℕ → List ℕ → List ℕ → List ℕ → WhitePoint → Conditions
conditions_by rows x y z white = record { rows = rows; x = x; y = y; z = z; white = white }

-- stands where nothing is opened: no row, no weight, and some white, so that soundness needs no exception
unfoldable pub no_conditions : Conditions
no_conditions =
    record {
      rows = 0;
      x = replicate most_rows 0;
      y = replicate most_rows 0;
      z = replicate most_rows 0;
      white = white_point_of (record { x = white_reading; y = white_reading; z = white_reading });
    }

-- what preparing answers, in the paper's numbers: the conditions, or the number of the cause against them
abbrev pub prepared_of : Tables → Numbered Conditions
prepared_of t = numbered (first_of (table_checks t)) (conditions_of t)

abbrev pub prepared_light : ℕ → ℕ → Numbered Conditions
prepared_light light spacing = numbered (first_of (light_checks light spacing)) (conditions_of (light_tables light spacing))

-- what holds of prepared conditions
pub record Sound (c : Conditions) : Type 0 where
  pub few : c.rows ≤ most_rows
  pub weights_x : Weights c.x
  pub weights_y : Weights c.y
  pub weights_z : Weights c.z
  pub least_x : dot white_readings c.x ≤ c.white.sums.x
  pub least_y : dot white_readings c.y ≤ c.white.sums.y
  pub least_z : dot white_readings c.z ≤ c.white.sums.z
  pub point : c.white ≡ white_point_of c.white.sums
  pub white : White c.white.sums

-- what a preparation promises: its answer, and that its conditions are sound
pub record Prepares (n : Numbered Conditions) (r : Result Conditions Cause) : Type 0 where
  pub answer : answer_of r ≡ n
  pub sound : IfOk r Sound
