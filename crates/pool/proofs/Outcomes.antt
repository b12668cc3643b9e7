-- What a pooling answers and leaves, by the tests that led there: the first check that holds decides both. Assumes nothing.
use mathlib.Core.Path.{◌≡◌}
use mathlib.Core.Bool.{true, false}
use mathlib.Core.List.{List}
use Prim.Native.Nat.{ℕ, ◌*◌, ◌≤◌, ◌<◌}
use native.Mathlib.Omega.{arith}
use lib.ListN.{length}
use lib.Dec.{ltb}
use borrow.Author.Tests.{eq-eqb, ne_eqb, eqb-true, ltb-false, not-false}
use Rattle.causes.specs.declared.Cause.{Cause}
use Rattle.causes.specs.declared.Cause.TheVariants.{ShortTable, OverBright, UnknownSpacing, SpotCount}
use Rattle.std.specs.Prelude.{Ok, Err}
use Rattle.causes.specs.Causes.{cause_number, accepted, refused}
use Rattle.causes.specs.Checks.{first_of, unless}
use Rattle.causes.proofs.Checks.{clear_at}
use Rattle.cie.specs.Scales.{any_above, frame_limit}
use Rattle.cie.specs.Spacing.{unknown_spacing, rows_at}
use Rattle.cie.proofs.Scales.{or_left, or_right}
use Rattle.cie.proofs.TableRows.{rows_few}
use Rattle.pool.specs.Spots.{fewest_spots, most_spots, off_count, pooled_spectrum, WholeSpots}
use Rattle.pool.specs.Pooling.{pool_checks, pooled, spots_at, places_after_pool}

-- the checks, in their order; rows is what the code has of the spacing
module _ (spacing count : ℕ) (readings : List ℕ) (places : ℕ) where
  pub unknown_spacing_lem : unknown_spacing spacing ≡ true → first_of (pool_checks spacing count readings places) ≡ Err UnknownSpacing
  unfolding first_of pool_checks
  unknown_spacing_lem h = rw h

  module _ (known : unknown_spacing spacing ≡ false) where
    pub spot_count : off_count count ≡ true → first_of (pool_checks spacing count readings places) ≡ Err SpotCount
    unfolding first_of pool_checks
    spot_count h = rw (known, h)

    module _ (several : off_count count ≡ false) {rows : ℕ} (at : rows ≡ rows_at spacing) where
      pub short_spots : (length readings ≡ rows * count → ⊥) → first_of (pool_checks spacing count readings places) ≡ Err ShortTable
      unfolding first_of pool_checks
      short_spots h = rw (known, several, ← at, ne_eqb (length readings) (rows * count) h)

      module _ (long : length readings ≡ rows * count) where
        pub short_places : (places ≡ rows → ⊥) → first_of (pool_checks spacing count readings places) ≡ Err ShortTable
        unfolding first_of pool_checks
        short_places h = rw (known, several, ← at, eq-eqb (length readings) (rows * count) long, ne_eqb places rows h)

        module _ (fit : places ≡ rows) where
          pub over_bright : any_above frame_limit readings ≡ true → first_of (pool_checks spacing count readings places) ≡ Err OverBright
          unfolding first_of pool_checks
          over_bright h = rw (known, several, ← at, eq-eqb (length readings) (rows * count) long, eq-eqb places rows fit, h)

          pub pools : any_above frame_limit readings ≡ false → first_of (pool_checks spacing count readings places) ≡ Ok tt
          unfolding first_of pool_checks
          pools h = rw (known, several, ← at, eq-eqb (length readings) (rows * count) long, eq-eqb places rows fit, h)

-- a pooling that is refused, and one that is accepted
module _ (spacing count : ℕ) (readings places : List ℕ) where
  pub pool_refused : (c : Cause) → first_of (pool_checks spacing count readings (length places)) ≡ Err c
      → (refused (cause_number c) ≡ pooled spacing count readings (length places)) × (places ≡ places_after_pool spacing count readings places)
  unfolding pooled places_after_pool unless
  pool_refused c e = (rw e, rw e)

  pub pool_accepted : first_of (pool_checks spacing count readings (length places)) ≡ Ok tt → {after : List ℕ}
      → after ≡ pooled_spectrum (rows_at spacing) (spots_at spacing count readings)
      → (accepted 0 ≡ pooled spacing count readings (length places)) × (after ≡ places_after_pool spacing count readings places)
  unfolding pooled places_after_pool unless
  pool_accepted e {after} stored = (rw e, rw e stored)

-- a count that is not off, and what passes all checks
count_some : (count : ℕ) → off_count count ≡ false → 0 < count
count_some count h = omega (arith, ltb-false count fewest_spots (or_left (ltb count fewest_spots) (ltb most_spots count) h))

pub count_few : (count : ℕ) → off_count count ≡ false → count ≤ most_spots
count_few count h = ltb-false most_spots count (or_right (ltb count fewest_spots) (ltb most_spots count) h)

module _ (spacing count : ℕ) (readings : List ℕ) (places : ℕ) where
  pub passed : first_of (pool_checks spacing count readings places) ≡ Ok tt → WholeSpots (rows_at spacing) count readings
  unfolding pool_checks
  passed e =
      let several = clear_at _ e 1 in
      record {
        some = count_some count several;
        few = count_few count several;
        fit = rows_few spacing;
        whole = eqb-true (length readings) (rows_at spacing * count) (not-false _ (clear_at _ e 2));
        fair = clear_at _ e 4;
      }
