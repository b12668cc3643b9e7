-- The sums of a spectrum straight from tables of 81 rows: a row at a spacing is a row of the table. Assumes nothing.
use mathlib.Core.Path.{◌≡◌, refl, sym, ap, ◌∙◌}
use mathlib.Core.Bool.{Bool, true, false, cond}
use mathlib.Core.List.{List, [], ◌∷◌}
use Prim.Native.Nat.{ℕ, ◌+◌, ◌-◌, ◌*◌, ◌^◌, ◌≤◌, ◌<◌}
use native.Mathlib.Omega.{arith}
use native.Mathlib.Nat.{mul-le-mul, mul_assoc}
use lib.Dec.{eqb, ltb}
use lib.ListN.{length, get_or, replicate, get_or-append}
use Rattle.cie.specs.declared.Sums.{Sums}
use Rattle.cie.specs.Spacing.{coarse_spacing, coarse_rows, most_rows, rows_at, filled}
use Rattle.cie.specs.Scales.{reader_limit, illuminant_limit, column_limit, any_above}
use Rattle.cie.specs.Tables.{observer_x, observer_y, observer_z, illuminant_a, illuminant_d65}
use Rattle.cie.specs.Sums.{sums_of, with_row}
use Rattle.cie.specs.Lights.{light_a, every_second, table_at}
use Rattle.cie.proofs.Scales.{or_left, or_right, below}
use Rattle.cie.proofs.TableRows.{second_at, table_length}
use Rattle.conditions.specs.Weights.{products_of, weights_of, Spectrum, Weights, Begun}
use Rattle.conditions.specs.Checks.{Fits}
use Rattle.conditions.proofs.Products.{products_length, products_at}
use Rattle.conditions.proofs.Dots.{sums_same, begun_none, begun_fits, begun_more, begun_all}
use Rattle.conditions.proofs.Fits.{built_in, weights_fit}
use Rattle.lights.specs.Lights.{illuminant_of, stride_at, Whole, tables_at}

-- the illuminant of a light with the built-in observer
pub whole_in : (light : ℕ) → Whole (illuminant_of light) observer_x observer_y observer_z
whole_in light = record { illuminant_fits = go (eqb light light_a); x_fits = built_in.x; y_fits = built_in.y; z_fits = built_in.z }
  where
    go : (t : Bool) → Fits most_rows illuminant_limit (cond t illuminant_a illuminant_d65)
    go true = built_in.a
    go false = built_in.d65

-- ── the rows of a spacing ──

pub stride_row : (spacing i : ℕ) → i < rows_at spacing → stride_at spacing * i < most_rows
unfolding rows_at stride_at
stride_row spacing i h = go (eqb spacing coarse_spacing) h
  where
    go : (t : Bool) → i < cond t coarse_rows most_rows → cond t 2 1 * i < most_rows
    go true k = omega arith
    go false k = omega arith

-- the row that a program reads
pub row_within : (spacing stride i : ℕ) → stride ≡ stride_at spacing → i < rows_at spacing → stride * i < most_rows
row_within spacing stride i e h = rw e (stride_row spacing i h)

table_row : (spacing : ℕ) (table : List ℕ) (i : ℕ) → get_or (table_at spacing table) i 0 ≡ get_or table (stride_at spacing * i) 0
unfolding table_at stride_at
table_row spacing table i = go (eqb spacing coarse_spacing)
  where
    go : (t : Bool) → get_or (cond t (every_second table) table) i 0 ≡ get_or table (cond t 2 1 * i) 0
    go true = second_at table i
    go false = ap (λ (k : ℕ). get_or table k 0) (omega arith)

second_below : (limit : ℕ) (table : List ℕ) → any_above limit table ≡ false → any_above limit (every_second table) ≡ false
unfolding every_second any_above
second_below limit [] h = refl
second_below limit (x ∷ []) h = h
second_below limit (x ∷ y ∷ xs) h =
    let rest = or_right (ltb limit y) (any_above limit xs) (or_right (ltb limit x) (any_above limit (y ∷ xs)) h) in
    rw (or_left (ltb limit x) (any_above limit (y ∷ xs)) h) (second_below limit xs rest)

-- a table of 81 rows, at the rows of a spacing
fits_at : (spacing : ℕ) {limit : ℕ} {table : List ℕ} → Fits most_rows limit table → Fits (rows_at spacing) limit (table_at spacing table)
unfolding table_at
fits_at spacing {limit} {table} f = record { length_is = table_length spacing table f.length_is; scale = go (eqb spacing coarse_spacing) }
  where
    go : (t : Bool) → any_above limit (cond t (every_second table) table) ≡ false
    go true = second_below limit table f.scale
    go false = f.scale

-- ── row by row ──

abbrev pub weights_at : ℕ → List ℕ → List ℕ → List ℕ
weights_at spacing is cs = weights_of (table_at spacing is) (table_at spacing cs)

module _ (spacing : ℕ) {is cs : List ℕ} (f : Fits most_rows illuminant_limit is) (g : Fits most_rows column_limit cs) where
  weights_at_lem : Weights (weights_at spacing is cs)
  weights_at_lem = weights_fit spacing (fits_at spacing f) (fits_at spacing g)

  -- reading × illuminant × column is reading × weight
  row_at : (r i : ℕ) {row : ℕ} → row ≡ stride_at spacing * i → i < rows_at spacing →
      r * get_or is row 0 * get_or cs row 0 ≡ r * get_or (weights_at spacing is cs) i 0
  unfolding weights_of filled
  row_at r i {row} e h =
      let it = table_at spacing is in
      let ct = table_at spacing cs in
      let ps = products_of it ct in
      let l = (fits_at spacing f).length_is in
      let m = (fits_at spacing g).length_is in
      let n = products_length it ct (m ∙ sym l) in
      let weight = get_or-append ps (replicate (most_rows - length ps) 0) 0 i (omega arith) ∙ products_at it ct i (omega arith) (omega arith) in
      rw (weight, table_row spacing is i, table_row spacing cs i, e) (mul_assoc r (get_or is (stride_at spacing * i) 0) (get_or cs (stride_at spacing * i) 0))

module _ (spacing : ℕ) {rs is x y z : List ℕ} (r : Spectrum rs) (few : length rs ≤ rows_at spacing) (p : Whole is x y z) where
  abbrev Lit : Sums → ℕ → Type 0
  Lit s i = Begun rs (weights_at spacing is x) (weights_at spacing is y) (weights_at spacing is z) s i

  pub lit_none : Lit (record { x = 0; y = 0; z = 0 }) 0
  lit_none =
      let f = p.illuminant_fits in
      begun_none (r, weights_at_lem spacing f p.x_fits, weights_at_lem spacing f p.y_fits, weights_at_lem spacing f p.z_fits)

  pub lit_product : (i row : ℕ) → get_or rs i 0 * get_or is row 0 < 2 ^ 64
  lit_product i row = omega (arith, mul-le-mul (below reader_limit rs i r.scale) (below illuminant_limit is row p.illuminant_fits.scale))

  module _ {s : Sums} {i : ℕ} (b : Lit s i) where
    module _ {row : ℕ} (h : i < length rs) (e : row ≡ stride_at spacing * i) where
      abbrev reading : ℕ
      reading = get_or rs i 0 * get_or is row 0

      same : {cs : List ℕ} → Fits most_rows column_limit cs → reading * get_or cs row 0 ≡ get_or rs i 0 * get_or (weights_at spacing is cs) i 0
      same g = row_at spacing p.illuminant_fits g (get_or rs i 0) i e (omega arith)

      pub lit_fits : (s.x + reading * get_or x row 0 < 2 ^ 64) × (s.y + reading * get_or y row 0 < 2 ^ 64) × (s.z + reading * get_or z row 0 < 2 ^ 64)
      lit_fits = let f = begun_fits b h in (rw (same p.x_fits) f.0, rw (same p.y_fits) f.1, rw (same p.z_fits) f.2)

      pub lit_more : {t : Sums} → t ≡ with_row s reading (get_or x row 0) (get_or y row 0) (get_or z row 0) → Lit t (i + 1)
      lit_more k = begun_more b h (k ∙ rw (same p.x_fits, same p.y_fits, same p.z_fits)) refl

    pub lit_all : i ≡ length rs → s ≡ sums_of (tables_at spacing is x y z) rs
    lit_all e = begun_all b e ∙ sums_same (tables_at spacing is x y z) rs
