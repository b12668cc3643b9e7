-- Tables that pass their first two checks: their lengths, their scales, and their weights; the built-in ones do. Assumes nothing.
use mathlib.Core.Path.{◌≡◌, refl, sym, ap, ◌∙◌}
use mathlib.Core.Bool.{Bool, false, ◌||◌}
use mathlib.Core.List.{List}
use Prim.Native.Nat.{ℕ, ◌≤◌}
use native.Mathlib.Omega.{arith}
use borrow.Author.Tests.{eqb-true, not-false}
use lib.Dec.{eqb}
use lib.ListN.{length}
use Rattle.cie.specs.Spacing.{most_rows, rows_at}
use Rattle.cie.specs.Scales.{illuminant_limit, column_limit, any_above}
use Rattle.cie.specs.Tables.{observer_x, observer_y, observer_z, illuminant_a, illuminant_d65}
use Rattle.cie.specs.Sums.{Tables}
use Rattle.cie.proofs.Scales.{or_left, or_right}
use Rattle.cie.proofs.TableRows.{rows_few, filled_length}
use Rattle.conditions.specs.Weights.{products_of, weights_of, Weights}
use Rattle.conditions.specs.Checks.{short, any_short, any_off_scale, Fits}
use Rattle.conditions.proofs.Products.{products_short, weights_below}

-- all four tables, at the spacing that they name
pub record Fit (t : Tables) : Type 0 where
  pub illuminant : Fits (rows_at t.spacing) illuminant_limit t.illuminant
  pub x : Fits (rows_at t.spacing) column_limit t.x
  pub y : Fits (rows_at t.spacing) column_limit t.y
  pub z : Fits (rows_at t.spacing) column_limit t.z

-- each of the built-in tables
pub record BuiltIn : Type 0 where
  pub a : Fits most_rows illuminant_limit illuminant_a
  pub d65 : Fits most_rows illuminant_limit illuminant_d65
  pub x : Fits most_rows column_limit observer_x
  pub y : Fits most_rows column_limit observer_y
  pub z : Fits most_rows column_limit observer_z

pub built_in : BuiltIn
unfolding any_above illuminant_a illuminant_d65 observer_x observer_y observer_z
built_in =
    record {
      a = record { length_is = refl; scale = refl };
      d65 = record { length_is = refl; scale = refl };
      x = record { length_is = refl; scale = refl };
      y = record { length_is = refl; scale = refl };
      z = record { length_is = refl; scale = refl };
    }

none_of : (a b c d : Bool) → (a || (b || (c || d))) ≡ false → (a ≡ false) × (b ≡ false) × (c ≡ false) × (d ≡ false)
none_of a b c d h =
    let k = or_right a (b || (c || d)) h in
    let l = or_right b (c || d) k in
    (or_left a (b || (c || d)) h, or_left b (c || d) k, or_left c d l, or_right c d l)

pub long : (rows : ℕ) (table : List ℕ) → short rows table ≡ false → length table ≡ rows
long rows table h = eqb-true _ _ (not-false (eqb (length table) rows) h)

-- whether a table is short, by the rows that a program has
pub short_as : {n rows : ℕ} (i x y z : List ℕ) {b : Bool} → n ≡ rows → b ≡ any_short n i x y z → any_short rows i x y z ≡ b
short_as i x y z e h = sym (h ∙ ap (λ (k : ℕ). any_short k i x y z) e)

module _ (t : Tables) where
  abbrev n : ℕ
  n = rows_at t.spacing

  pub fit : any_short n t.illuminant t.x t.y t.z ≡ false → any_off_scale t.illuminant t.x t.y t.z ≡ false → Fit t
  fit h k =
      let i = any_above illuminant_limit t.illuminant in
      let l = none_of (short n t.illuminant) (short n t.x) (short n t.y) (short n t.z) h in
      let s = none_of i (any_above column_limit t.x) (any_above column_limit t.y) (any_above column_limit t.z) k in
      record {
        illuminant = record { length_is = long n t.illuminant l.0; scale = s.0 };
        x = record { length_is = long n t.x l.1; scale = s.1 };
        y = record { length_is = long n t.y l.2; scale = s.2 };
        z = record { length_is = long n t.z l.3; scale = s.3 };
      }

-- an illuminant and a column can be multiplied row by row
module _ (spacing : ℕ) {i c : List ℕ} (f : Fits (rows_at spacing) illuminant_limit i) (g : Fits (rows_at spacing) column_limit c) where
  pub matched : (length i ≤ most_rows) × (length c ≡ length i)
  matched = (omega (arith, rows_few spacing, f.length_is), g.length_is ∙ sym f.length_is)

  pub weights_fit : Weights (weights_of i c)
  unfolding weights_of
  weights_fit =
      let few : length (products_of i c) ≤ most_rows = omega (arith, products_short i c, matched.0) in
      record { length_is = filled_length (products_of i c) few; scale = weights_below illuminant_limit column_limit i c f.scale g.scale }
