-- Bounds of a pooled reading: the half that is added is less than the number that divides, so what bounds the readings bounds it. Assumes nothing.
use mathlib.Core.Path.{◌≡◌, refl}
use mathlib.Core.Bool.{false}
use mathlib.Core.List.{List, [], ◌∷◌}
use Prim.Native.Nat.{ℕ, zero, suc, ◌+◌, ◌*◌, ◌/◌, ◌≤◌, ◌<◌, max}
use native.Mathlib.Nat.{le-div_iff_mul-le, div-lt_iff_lt-mul, le_of_suc-le-suc, le_antisymm, mul-le-mul_right}
use native.Mathlib.Nat.{min-le_left, min-le_right, le-max_left, le-max_right}
use native.Mathlib.Omega.{arith}
use borrow.Author.Tests.{ltb-false, le-ltb}
use lib.Dec.{ltb}
use lib.ListN.{length, replicate, length-replicate}
use Rattle.cie.specs.Scales.{any_above}
use Rattle.cie.proofs.Scales.{or_left, or_right, above_wider}
use Rattle.pool.specs.Spots.{sum_of, pooled_reading}
use Rattle.pool.specs.Claims.{smallest_of, largest_of}

-- of so many readings whose sum is at least m for each, or at most m for each
module _ (readings : List ℕ) (m : ℕ) (some : 0 < length readings) where
  pub pooled_least : m * length readings ≤ sum_of readings → m ≤ pooled_reading readings
  unfolding pooled_reading
  pooled_least h = (le-div_iff_mul-le {k = length readings} {x = m} {y = sum_of readings + length readings / 2} some).1 (omega (arith, h))

  pub pooled_most : sum_of readings ≤ m * length readings → pooled_reading readings ≤ m
  unfolding pooled_reading
  pooled_most h =
      le_of_suc-le-suc ((div-lt_iff_lt-mul {k = length readings} {x = sum_of readings + length readings / 2} {y = suc m} some).1 (omega (arith, h)))

-- a limit on the readings
pub sum_limit : (limit : ℕ) (readings : List ℕ) → any_above limit readings ≡ false → sum_of readings ≤ limit * length readings
unfolding any_above sum_of
sum_limit limit [] h = omega arith
sum_limit limit (r ∷ rs) h =
    let first = ltb-false limit r (or_left (ltb limit r) (any_above limit rs) h) in
    omega (arith, first, sum_limit limit rs (or_right (ltb limit r) (any_above limit rs) h))

pub pooled_limit : (limit : ℕ) (readings : List ℕ) → 0 < length readings → any_above limit readings ≡ false → pooled_reading readings ≤ limit
pooled_limit limit readings some h = pooled_most readings limit some (sum_limit limit readings h)

-- the largest is such a limit
none_above_largest : (readings : List ℕ) → any_above (largest_of readings) readings ≡ false
unfolding any_above largest_of
none_above_largest [] = refl
none_above_largest (r ∷ rs) =
    let top = max r (largest_of rs) in
    rw (le-ltb top r (le-max_left r (largest_of rs))) (above_wider (largest_of rs) top rs (le-max_right r (largest_of rs)) (none_above_largest rs))

pub pooled_largest : (readings : List ℕ) → 0 < length readings → pooled_reading readings ≤ largest_of readings
pooled_largest readings some = pooled_limit (largest_of readings) readings some (none_above_largest readings)

-- each reading is at least the smallest
sum_smallest : (readings : List ℕ) → smallest_of readings * length readings ≤ sum_of readings
unfolding smallest_of sum_of
sum_smallest [] = omega arith
sum_smallest (r ∷ []) = omega arith
sum_smallest (r ∷ s ∷ rs) =
    omega (
      arith,
      min-le_left r (smallest_of (s ∷ rs)),
      mul-le-mul_right (length (s ∷ rs)) (min-le_right r (smallest_of (s ∷ rs))),
      sum_smallest (s ∷ rs),
    )

pub pooled_smallest : (readings : List ℕ) → 0 < length readings → smallest_of readings ≤ pooled_reading readings
pooled_smallest readings some = pooled_least readings (smallest_of readings) some (sum_smallest readings)

-- equal readings pool to themselves
sum_equal : (n r : ℕ) → sum_of (replicate n r) ≡ r * length (replicate n r)
unfolding sum_of
sum_equal zero r = omega arith
sum_equal (suc n) r = omega (arith, sum_equal n r)

pub pooled_equal : (n r : ℕ) → 0 < n → pooled_reading (replicate n r) ≡ r
pooled_equal n r some =
    let e = sum_equal n r in
    let l : 0 < length (replicate n r) = omega (arith, length-replicate n r) in
    le_antisymm (pooled_most (replicate n r) r l (omega (arith, e))) (pooled_least (replicate n r) r l (omega (arith, e)))
