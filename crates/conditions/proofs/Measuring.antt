-- Laws of measuring: what an answer says of its checks, and that measured sums are ready for their colour, which is sized. Assumes nothing.
use mathlib.Core.Path.{◌≡◌, sym, ◌∙◌, ap, subst}
use mathlib.Core.List.{List}
use Prim.Native.Nat.{ℕ, ◌*◌, ◌≤◌}
use native.Mathlib.Omega.{arith}
use Rattle.causes.specs.declared.Cause.{Cause}
use Rattle.std.specs.Prelude.{Result, Ok, Err}
use Rattle.causes.specs.Causes.{cause_number, answer_of}
use Rattle.causes.specs.Checks.{first_of}
use Rattle.causes.proofs.Checks.{clear_at, numbered_refused, numbered_accepted}
use Rattle.cie.specs.declared.Sums.{Sums}
use Rattle.cie.specs.declared.Colour.{Colour}
use Rattle.cie.specs.Spacing.{most_rows}
use Rattle.cie.specs.Scales.{reader_limit}
use Rattle.cie.specs.Sums.{White, AtMostTwice}
use Rattle.cie.specs.Sizes.{Sized}
use Rattle.cie.specs.Colour.{colour_of}
use Rattle.cie.proofs.Scales.{above_wider}
use Rattle.cie.proofs.Sizes.{colour_sized}
use Rattle.colour.specs.White.{white_point_of}
use Rattle.conditions.specs.declared.Conditions.{Conditions}
use Rattle.conditions.specs.Weights.{dot, dots, white_readings, Spectrum, Weights}
use Rattle.conditions.specs.Checks.{spectrum_checks}
use Rattle.conditions.specs.Conditions.{Sound}
use Rattle.conditions.specs.Measure.{measured_by, colour_under}
use Rattle.conditions.proofs.Dots.{twice}
use Rattle.conditions.proofs.Fits.{long}

-- readings that pass their checks
pub spectrum_of_lem : (limit rows : ℕ) (readings : List ℕ) → limit ≤ reader_limit → rows ≤ most_rows →
    first_of (spectrum_checks limit rows readings) ≡ Ok tt → Spectrum readings
spectrum_of_lem limit rows readings h k e =
    record {
      few = omega (arith, k, long rows readings (clear_at _ e 0));
      scale = above_wider limit reader_limit readings h (clear_at _ e 1);
    }

-- the sum of a spectrum by a column is at most twice that of the white
pub at_most_white : {rs ws : List ℕ} {n : ℕ} → Spectrum rs → Weights ws → dot white_readings ws ≤ n → dot rs ws ≤ 2 * n
at_most_white {rs} {ws} r w h = omega (arith, twice most_rows rs ws (omega (arith, w.length_is)) r.scale)

-- what a colour is found of: the white's own point, an accepted white, and sums at most twice its own
abbrev pub Ready : Conditions → Sums → Type 0
Ready c sums = (c.white ≡ white_point_of c.white.sums) × White c.white.sums × AtMostTwice c.white.sums sums

module _ {c : Conditions} (s : Sound c) {readings : List ℕ} (r : Spectrum readings) where
  lit : AtMostTwice c.white.sums (dots c.x c.y c.z readings)
  lit =
      record {
        x = at_most_white r s.weights_x s.least_x;
        y = at_most_white r s.weights_y s.least_y;
        z = at_most_white r s.weights_z s.least_z;
      }

  pub sums_ready : {sums : Sums} → sums ≡ dots c.x c.y c.z readings → Ready c sums
  sums_ready e = (s.point, s.white, subst (AtMostTwice c.white.sums) (sym e) lit)

  pub colour_by : {sums : Sums} {colour : Colour} → sums ≡ dots c.x c.y c.z readings → colour ≡ colour_of c.white.sums sums →
      colour ≡ colour_under c readings
  colour_by e k = k ∙ ap (colour_of c.white.sums) e

  pub sized_under : Sized (colour_under c readings)
  sized_under = colour_sized s.white lit

  pub sums_sized : {sums : Sums} {colour : Colour} → sums ≡ dots c.x c.y c.z readings → colour ≡ colour_of c.white.sums sums → Sized colour
  sums_sized e k = subst Sized (sym (colour_by e k)) sized_under

-- what a measuring answer says of its checks
module _ (limit rows : ℕ) (x y z readings : List ℕ) {m : Result Sums Cause} (e : answer_of m ≡ measured_by limit rows x y z readings) where
  pub measured_refused : {c : Cause} → m ≡ Err c →
      (d : Cause) × (first_of (spectrum_checks limit rows readings) ≡ Err d) × (cause_number d ≡ cause_number c)
  unfolding measured_by
  measured_refused told = numbered_refused _ (dots x y z readings) _ (sym e ∙ ap answer_of told)

  pub measured_whole : {s : Sums} → m ≡ Ok s → (first_of (spectrum_checks limit rows readings) ≡ Ok tt) × (s ≡ dots x y z readings)
  unfolding measured_by
  measured_whole told = numbered_accepted _ (dots x y z readings) _ (sym e ∙ ap answer_of told)

-- measured sums under sound conditions
module _ (c : Conditions) (s : Sound c) (limit : ℕ) (h : limit ≤ reader_limit) (readings : List ℕ) {m : Result Sums Cause} {sums : Sums}
    (e : answer_of m ≡ measured_by limit c.rows c.x c.y c.z readings) (told : m ≡ Ok sums) where
  pub measured_ready : Ready c sums
  measured_ready =
      let w = measured_whole limit c.rows _ _ _ readings e told in
      sums_ready s (spectrum_of_lem limit c.rows readings h s.few w.0) w.1

  pub measured_sized : {colour : Colour} → colour ≡ colour_of c.white.sums sums → Sized colour
  measured_sized k =
      let w = measured_whole limit c.rows _ _ _ readings e told in
      sums_sized s (spectrum_of_lem limit c.rows readings h s.few w.0) w.1 k
