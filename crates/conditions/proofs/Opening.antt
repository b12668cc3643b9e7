-- The opening of a built-in light, by its number and the spacing. Assumes nothing.
use mathlib.Core.Path.{◌≡◌, sym, ◌∙◌, ap}
use mathlib.Core.Bool.{false, cond}
use mathlib.Core.List.{List}
use Prim.Native.Nat.{ℕ}
use native.Mathlib.Omega.{arith}
use borrow.Author.Tests.{eq-eqb, ne_eqb}
use lib.Dec.{eqb}
use lib.ListN.{length, take}
use Rattle.causes.specs.declared.Cause.TheVariants.{NoSuchLight}
use Rattle.causes.specs.Causes.{cause_number, refused}
use Rattle.causes.proofs.Checks.{accepts, fires, passes, ends}
use Rattle.cie.specs.Spacing.{unknown_spacing, most_rows, rows_at, filled}
use Rattle.cie.specs.Tables.{observer_x, observer_y, observer_z, illuminant_a, illuminant_d65}
use Rattle.cie.specs.Sums.{tables_of}
use Rattle.cie.specs.Lights.{light_a, light_d65, unknown_light, table_at, observed}
use Rattle.cie.proofs.TableRows.{rows_few, table_length, filled_length, filled_front}
use Rattle.conditions.specs.Conditions.{prepared_of, prepared_light}
use Rattle.conditions.proofs.Sound.{light_clear}
use Rattle.conditions.proofs.Fits.{built_in}

-- an array that holds a built-in table at a spacing: how long it is, and that the table is its front
module _ (spacing : ℕ) (table : List ℕ) {array : List ℕ} (h : length table ≡ most_rows) (e : array ≡ filled (table_at spacing table)) where
  pub held_length : length array ≡ most_rows
  held_length = ap length e ∙ filled_length (table_at spacing table) (omega (arith, table_length spacing table h, rows_few spacing))

  pub held_front : take (rows_at spacing) array ≡ table_at spacing table
  held_front = ap (take (rows_at spacing)) e ∙ filled_front (table_at spacing table) (rows_at spacing) (table_length spacing table h)

-- the tables of an illuminant with the built-in observer, as a program lends them
pub lent : (spacing : ℕ) (i : List ℕ) {rows : ℕ} {x y z : List ℕ} → rows ≡ rows_at spacing →
    x ≡ filled (table_at spacing observer_x) → y ≡ filled (table_at spacing observer_y) → z ≡ filled (table_at spacing observer_z) →
    observed spacing (take (rows_at spacing) i) ≡ tables_of spacing (take rows i) (take rows x) (take rows y) (take rows z)
lent spacing i e p q r =
    rw (
      e,
      held_front spacing observer_x built_in.x.length_is p,
      held_front spacing observer_y built_in.y.length_is q,
      held_front spacing observer_z built_in.z.length_is r,
    )

module _ (light spacing : ℕ) (known : unknown_spacing spacing ≡ false) where
  -- the light's own tables pass, so that its opening has no check but its own
  opened_by_lem : (table : List ℕ) {array : List ℕ} → length table ≡ most_rows → table ≡ cond (eqb light light_a) illuminant_a illuminant_d65 →
      unknown_light light ≡ false → array ≡ filled (table_at spacing table) →
      prepared_light light spacing ≡ prepared_of (observed spacing (take (rows_at spacing) array))
  opened_by_lem table whole e lit h =
      let front = held_front spacing table whole h ∙ ap (table_at spacing) e in
      passes _ _ _ _ _ known ∙ passes _ _ _ _ _ lit ∙ ends _ _ ∙ sym (rw front (accepts _ _ _ (light_clear light spacing known)))

  pub light_a_lem : {array : List ℕ} → light ≡ light_a → array ≡ filled (table_at spacing illuminant_a) →
      prepared_light light spacing ≡ prepared_of (observed spacing (take (rows_at spacing) array))
  light_a_lem e h = opened_by_lem illuminant_a built_in.a.length_is (rw (eq-eqb light light_a e)) (rw (eq-eqb light light_a e)) h

  module _ (n : light ≡ light_a → ⊥) where
    pub light_d65_lem : {array : List ℕ} → light ≡ light_d65 → array ≡ filled (table_at spacing illuminant_d65) →
        prepared_light light spacing ≡ prepared_of (observed spacing (take (rows_at spacing) array))
    light_d65_lem e h = opened_by_lem illuminant_d65 built_in.d65.length_is (rw (ne_eqb light light_a n)) (rw (ne_eqb light light_a n, eq-eqb light light_d65 e)) h

    pub light_none : (light ≡ light_d65 → ⊥) → prepared_light light spacing ≡ refused (cause_number NoSuchLight)
    light_none m = passes _ _ _ _ _ known ∙ fires _ _ _ _ _ (rw (ne_eqb light light_a n, ne_eqb light light_d65 m))
