-- The rule by evaluation: a half of an even number of spots goes up; of an odd number the half is dropped before it is added. Assumes nothing.
use mathlib.Core.Path.{◌≡◌, refl}
use mathlib.Core.List.{List, [], ◌∷◌}
use Prim.Native.Nat.{ℕ}
use lib.ListN.{replicate}
use Rattle.pool.specs.Spots.{spots_of, sum_of, pooled_reading, pooled_from, pooled_spectrum}

-- two spots, three and sixteen
pub worked : ◌≡◌ {A = List ℕ}
    (pooled_reading (1 ∷ 2 ∷ []) ∷ pooled_reading (0 ∷ 0 ∷ 1 ∷ []) ∷ pooled_reading (0 ∷ 1 ∷ 1 ∷ [])
    ∷ pooled_reading (7 ∷ replicate 15 0) ∷ pooled_reading (8 ∷ replicate 15 0) ∷ pooled_reading (replicate 16 12000) ∷ [])
    (2 ∷ 0 ∷ 1 ∷ 0 ∷ 1 ∷ 12000 ∷ [])
unfolding pooled_reading sum_of
worked = refl

-- three spots of two rows, one after another
pub worked_spectrum : pooled_spectrum 2 (spots_of 2 3 (803 ∷ 10 ∷ 801 ∷ 20 ∷ 804 ∷ 41 ∷ [])) ≡ 803 ∷ 24 ∷ []
unfolding pooled_from pooled_reading sum_of spots_of
worked_spectrum = refl
