-- The theorems about pooled spots: their order, their bounds, and spots that are all equal. Assumes nothing.
use mathlib.Core.Path.{◌≡◌, refl, sym, ap, ◌∙◌}
use mathlib.Core.List.{List, [], ◌∷◌, Permᴰ}
use Prim.Native.Nat.{ℕ, zero, suc, ◌+◌, ◌*◌, ◌<◌}
use native.Mathlib.Nat.{zero-add}
use native.Mathlib.Omega.{arith}
use borrow.Author.Tests.{eqb-true, not-false}
use lib.ListN.{length, get_or, drop, replicate, drop_of_length-le}
use lib.Seq.{drop-cons, length-take-le}
use Rattle.causes.specs.declared.Cause.{Cause}
use Rattle.std.specs.Prelude.{Ok}
use Rattle.causes.specs.declared.Cause.TheVariants.{OverBright}
use Rattle.causes.specs.Causes.{accepted, refusal}
use Rattle.causes.specs.Checks.{check, first_of, unless}
use Rattle.causes.proofs.Checks.{behind, accepts, numbered_accepted}
use Rattle.cie.specs.Scales.{any_above, frame_limit}
use Rattle.cie.specs.Spacing.{rows_at}
use Rattle.cie.proofs.Scales.{none_above}
use Rattle.pool.specs.Spots.{spots_of, at_row, pooled_reading, pooled_from, pooled_spectrum, WholeSpots}
use Rattle.pool.specs.Pooling.{pool_checks, pooled, spots_at, places_after_pool}
use Rattle.pool.specs.Claims.{OneAfterAnother, AnySpotOrder, PooledAmong, EqualSpots}
use Rattle.pool.proofs.Spots.{joined, taken_apart, length_row, row_some, row_fair, length-pooled, pooled_row}
use Rattle.pool.proofs.Readings.{pooled_largest, pooled_smallest, pooled_equal}
use Rattle.pool.proofs.Orders.{spectrum_order, above_order}
use Rattle.pool.proofs.Outcomes.{passed}

-- two slices of one length whose spots are the same, in any order
module _ (spacing count : ℕ) (readings others : List ℕ) (n : length readings ≡ length others)
    (d : Permᴰ (spots_at spacing count readings) (spots_at spacing count others)) where
  same_bright : length readings ≡ rows_at spacing * count → any_above frame_limit readings ≡ any_above frame_limit others
  same_bright h =
      ap (any_above frame_limit) (sym (joined (rows_at spacing) count readings h))
      ∙ above_order frame_limit d
      ∙ ap (any_above frame_limit) (joined (rows_at spacing) count others (sym n ∙ h))

  same_spectrum : pooled_spectrum (rows_at spacing) (spots_at spacing count readings)
      ≡ pooled_spectrum (rows_at spacing) (spots_at spacing count others)
  same_spectrum =
      spectrum_order
      (λ row. length_row (rows_at spacing) count row readings ∙ sym (length_row (rows_at spacing) count row others)) d 0 (rows_at spacing)

  -- a length that is wrong decides before the limit does
  alike : {A : Type 0} (places : ℕ) (f : Cause → A) {a b : A} → a ≡ b
      → unless (first_of (pool_checks spacing count readings places)) f a ≡ unless (first_of (pool_checks spacing count others places)) f b
  unfolding pool_checks
  alike places f e =
      rw (← n)
      (behind _ _ _ _ f _ _ (λ _. behind _ _ _ _ f _ _ (λ _. behind _ _ _ _ f _ _ (λ h. behind _ _ _ _ f _ _ (λ _.
      let long = eqb-true (length readings) (rows_at spacing * count) (not-false _ h) in
      λ i. unless (first_of (check (same_bright long i) OverBright ∷ [])) f (e i))))))

pub any_spot_order : AnySpotOrder
unfolding pooled places_after_pool
any_spot_order spacing count readings others places n d = (
  alike spacing count readings others n d (length places) refusal refl,
  alike spacing count readings others n d (length places) (λ _. places) (same_spectrum spacing count readings others n d),
)

-- what an accepted pooling has shown, and what it leaves
module _ (spacing count : ℕ) (readings places : List ℕ) (e : pooled spacing count readings (length places) ≡ accepted 0) where
  clear : first_of (pool_checks spacing count readings (length places)) ≡ Ok tt
  unfolding pooled
  clear = (numbered_accepted (first_of (pool_checks spacing count readings (length places))) 0 0 e).0

  left : places_after_pool spacing count readings places ≡ pooled_spectrum (rows_at spacing) (spots_at spacing count readings)
  unfolding places_after_pool
  left = accepts (first_of (pool_checks spacing count readings (length places))) _ _ clear

  shown : WholeSpots (rows_at spacing) count readings
  shown = passed spacing count readings (length places) clear

pub pooled_among : PooledAmong
pooled_among spacing count readings places e =
    let rows = rows_at spacing in
    let spots = spots_at spacing count readings in
    let s = shown spacing count readings places e in
    let l = left spacing count readings places e in
    let each : (row : ℕ) → row < rows → get_or (places_after_pool spacing count readings places) row 0 ≡ pooled_reading (at_row spots row) =
    λ row h. ap (λ (k : List ℕ). get_or k row 0) l ∙ pooled_row spots rows row h in
    let whole : length (places_after_pool spacing count readings places) ≡ rows = ap length l ∙ length-pooled spots 0 rows in
    record {
      whole = whole;
      limit = none_above frame_limit (places_after_pool spacing count readings places) (λ row h.
          let k : row < rows = omega (arith, h, whole) in omega (arith, each row k, row_fair s row k));
      smallest = λ row h. omega (arith, each row h, pooled_smallest (at_row spots row) (row_some s row));
      largest = λ row h. omega (arith, each row h, pooled_largest (at_row spots row) (row_some s row));
    }

-- equal spots, row by row
row_equal : (n : ℕ) (spot : List ℕ) (row : ℕ) → at_row (replicate n spot) row ≡ replicate n (get_or spot row 0)
row_equal zero spot row = refl
row_equal (suc n) spot row = ap (λ (l : List ℕ). get_or spot row 0 ∷ l) (row_equal n spot row)

equal_from : (count : ℕ) (spot : List ℕ) → 0 < count → (row n : ℕ) → row + n ≡ length spot → pooled_from (replicate count spot) row n ≡ drop row spot
unfolding pooled_from
equal_from count spot some row zero h = sym (drop_of_length-le spot {i = row} (omega arith))
equal_from count spot some row (suc n) h =
    let first : pooled_reading (at_row (replicate count spot) row) ≡ get_or spot row 0 =
    ap pooled_reading (row_equal count spot row) ∙ pooled_equal count (get_or spot row 0) some in
    (λ i. first i ∷ equal_from count spot some (suc row) n (omega arith) i) ∙ sym (drop-cons spot row 0 (omega arith))

-- the first of some spots has all rows
first_length : (rows count : ℕ) (readings spot : List ℕ) → WholeSpots rows count readings → spots_of rows count readings ≡ replicate count spot
    → length spot ≡ rows
unfolding spots_of
first_length rows zero readings spot s e = let z : ◌≡◌ {A = ℕ} 0 1 = omega (arith, s.some) in cc
first_length rows (suc n) readings spot s e =
    sym (ap (λ (l : List (List ℕ)). length (get_or l 0 [])) e)
    ∙ length-take-le rows readings (omega (arith, s.whole))

pub equal_spots : EqualSpots
equal_spots spacing count readings spot places e equal =
    let s = shown spacing count readings places e in
    left spacing count readings places e
    ∙ ap (λ (spots : List (List ℕ)). pooled_spectrum (rows_at spacing) spots) equal
    ∙ equal_from count spot s.some 0 (rows_at spacing)
    (zero-add (rows_at spacing) ∙ sym (first_length (rows_at spacing) count readings spot s equal))

pub one_after_another : OneAfterAnother
one_after_another = record { joined = joined; taken_apart = taken_apart }
