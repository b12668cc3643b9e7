-- The spots of a slice, as a whole and row by row: at each row their readings stand so many rows apart. Assumes nothing.
use mathlib.Core.Path.{◌≡◌, refl, sym, ap, ◌∙◌}
use mathlib.Core.Bool.{false}
use mathlib.Core.List.{List, [], ◌∷◌, ◌++◌, flatten}
use Prim.Native.Nat.{ℕ, zero, suc, ◌+◌, ◌-◌, ◌*◌, ◌/◌, ◌≤◌, ◌<◌}
use native.Mathlib.Nat.{zero-add, add-zero, mul-zero}
use native.Mathlib.Omega.{arith}
use borrow.Author.Tests.{le-ltb}
use lib.ListN.{length, get_or, take, drop, length-map, length-drop, take-append-drop}
use lib.Seq.{get_or-take, get_or-drop, drop-drop, take_at, drop_at}
use Rattle.cie.specs.Scales.{any_above, frame_limit}
use Rattle.cie.proofs.Scales.{below}
use Rattle.pool.proofs.Readings.{sum_limit, pooled_limit}
use Rattle.pool.specs.Spots.{most_spots, spots_of, at_row, sum_of, pooled_reading, pooled_from, WholeSpots}

-- joined, the spots of a slice are the slice, and spots that are joined are taken apart again
pub joined : (rows count : ℕ) (readings : List ℕ) → length readings ≡ rows * count → flatten (spots_of rows count readings) ≡ readings
unfolding spots_of flatten
joined rows zero [] h = refl
joined rows zero (r ∷ rs) h = let z : ◌≡◌ {A = ℕ} 0 1 = omega (arith, h, mul-zero rows) in cc
joined rows (suc n) readings h =
    ap (λ (l : List ℕ). take rows readings ++ l) (joined rows n (drop rows readings) (omega (arith, length-drop rows readings, h)))
    ∙ take-append-drop rows readings

pub taken_apart : (rows : ℕ) (spots : List (List ℕ)) → ((i : ℕ) → i < length spots → length (get_or spots i []) ≡ rows)
    → spots_of rows (length spots) (flatten spots) ≡ spots
unfolding spots_of flatten
taken_apart rows [] each = refl
taken_apart rows (spot ∷ spots) each =
    let first = each 0 (omega arith) in
    let others = ap (spots_of rows (length spots)) (drop_at spot (flatten spots) rows first)
    ∙ taken_apart rows spots (λ i h. each (suc i) (omega (arith, h))) in
    λ i. take_at spot (flatten spots) rows first i ∷ others i

-- so many readings, each so many rows after the one before it, from a place on
unfoldable pub every_from : ℕ → ℕ → ℕ → List ℕ → List ℕ
every_from rows at zero readings = []
every_from rows at (suc n) readings = get_or readings at 0 ∷ every_from rows (at + rows) n readings

module _ (rows row : ℕ) (within : row < rows) (readings : List ℕ) where
  row_from : (n k : ℕ) → at_row (spots_of rows n (drop k readings)) row ≡ every_from rows (k + row) n readings
  unfolding spots_of every_from
  row_from zero k = refl
  row_from (suc n) k =
      let first : get_or (take rows (drop k readings)) row 0 ≡ get_or readings (k + row) 0 =
      get_or-take rows (drop k readings) row 0 within ∙ get_or-drop k readings row 0 in
      let others : at_row (spots_of rows n (drop rows (drop k readings))) row ≡ every_from rows (k + row + rows) n readings =
      ap (λ (l : List ℕ). at_row (spots_of rows n l) row) (drop-drop rows k readings) ∙ row_from n (k + rows)
      ∙ ap (λ (m : ℕ). every_from rows m n readings) (omega arith) in
      λ i. first i ∷ others i

  pub row_is : (n : ℕ) → at_row (spots_of rows n readings) row ≡ every_from rows row n readings
  row_is n = row_from n 0 ∙ ap (λ (m : ℕ). every_from rows m n readings) (zero-add row)

length_spots : (rows n : ℕ) (readings : List ℕ) → length (spots_of rows n readings) ≡ n
unfolding spots_of
length_spots rows zero readings = refl
length_spots rows (suc n) readings = ap suc (length_spots rows n (drop rows readings))

pub length_row : (rows n row : ℕ) (readings : List ℕ) → length (at_row (spots_of rows n readings) row) ≡ n
length_row rows n row readings = length-map (spots_of rows n readings) (λ (spot : List ℕ). get_or spot row 0) ∙ length_spots rows n readings

-- what no reading is above, no reading of a row is
every_limit : (limit rows : ℕ) (readings : List ℕ) → any_above limit readings ≡ false
    → (n at : ℕ) → any_above limit (every_from rows at n readings) ≡ false
unfolding any_above every_from
every_limit limit rows readings h zero at = refl
every_limit limit rows readings h (suc n) at =
    rw (le-ltb limit (get_or readings at 0) (below limit readings at h)) (every_limit limit rows readings h n (at + rows))

-- the sum of a row's readings from the i-th spot of count on: all of them, one spot and then the others, none
abbrev pub sum_from : ℕ → ℕ → ℕ → List ℕ → ℕ → ℕ
sum_from rows row count readings i = sum_of (every_from rows (row + rows * i) (count - i) readings)

module _ (rows row count : ℕ) (readings : List ℕ) where
  pub sum_all : row < rows → sum_from rows row count readings 0 ≡ sum_of (at_row (spots_of rows count readings) row)
  sum_all within =
      let first : row + rows * 0 ≡ row = omega arith in
      let all : count - 0 ≡ count = omega arith in
      ap (λ (at : ℕ). sum_of (every_from rows at (count - 0) readings)) first ∙ ap (λ (n : ℕ). sum_of (every_from rows row n readings)) all
      ∙ ap sum_of (sym (row_is rows row within readings count))

  pub sum_more : (i : ℕ) → i < count
      → sum_from rows row count readings i ≡ get_or readings (row + rows * i) 0 + sum_from rows row count readings (i + 1)
  unfolding every_from sum_of
  sum_more i h =
      let at = row + rows * i in
      let more : count - i ≡ suc (count - (i + 1)) = omega arith in
      let next : at + rows ≡ row + rows * (i + 1) = omega arith in
      ap (λ (n : ℕ). sum_of (every_from rows at n readings)) more
      ∙ ap (λ (x : ℕ). get_or readings at 0 + sum_of (every_from rows x (count - (i + 1)) readings)) next

  pub sum_none : (i : ℕ) → count ≤ i → sum_from rows row count readings i ≡ 0
  unfolding every_from sum_of
  sum_none i h = let e : count - i ≡ 0 = omega arith in rw e

-- the readings of a row, where a pooling's checks have passed: their sum is small, and what they pool to is as the code makes it and obeys the limit
module _ {rows count : ℕ} {readings : List ℕ} (s : WholeSpots rows count readings) (row : ℕ) where
  pub row_some : 0 < length (at_row (spots_of rows count readings) row)
  row_some = omega (arith, length_row rows count row readings, s.some)

  pub row_pooled : {sum : ℕ} → sum ≡ sum_of (at_row (spots_of rows count readings) row)
      → (sum + count / 2) / count ≡ pooled_reading (at_row (spots_of rows count readings) row)
  unfolding pooled_reading
  row_pooled e = let n = sym (length_row rows count row readings) in λ i. (e i + n i / 2) / n i

  module _ (within : row < rows) where
    dim : any_above frame_limit (at_row (spots_of rows count readings) row) ≡ false
    dim = rw (row_is rows row within readings count) (every_limit frame_limit rows readings s.fair count row)

    pub row_sum_lem : sum_of (at_row (spots_of rows count readings) row) ≤ frame_limit * most_spots
    row_sum_lem = omega (arith, sum_limit frame_limit (at_row (spots_of rows count readings) row) dim, length_row rows count row readings, s.few)

    pub row_fair : pooled_reading (at_row (spots_of rows count readings) row) ≤ frame_limit
    row_fair = pooled_limit frame_limit (at_row (spots_of rows count readings) row) row_some dim

-- a pooled spectrum has a reading for each row
pub length-pooled : (spots : List (List ℕ)) (row n : ℕ) → length (pooled_from spots row n) ≡ n
unfolding pooled_from
length-pooled spots row zero = refl
length-pooled spots row (suc n) = ap suc (length-pooled spots (suc row) n)

pooled_from_lem : (spots : List (List ℕ)) (row n i : ℕ) → i < n → get_or (pooled_from spots row n) i 0 ≡ pooled_reading (at_row spots (row + i))
unfolding pooled_from
pooled_from_lem spots row zero i h = let z : ◌≡◌ {A = ℕ} 0 1 = omega arith in cc
pooled_from_lem spots row (suc n) zero h = ap (λ (k : ℕ). pooled_reading (at_row spots k)) (sym (add-zero row))
pooled_from_lem spots row (suc n) (suc i) h =
    pooled_from_lem spots (suc row) n i (omega arith) ∙ ap (λ (k : ℕ). pooled_reading (at_row spots k)) (omega arith)

pub pooled_row : (spots : List (List ℕ)) (n i : ℕ) → i < n → get_or (pooled_from spots 0 n) i 0 ≡ pooled_reading (at_row spots i)
pooled_row spots n i h = pooled_from_lem spots 0 n i h ∙ ap (λ (k : ℕ). pooled_reading (at_row spots k)) (zero-add i)
