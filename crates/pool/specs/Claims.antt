-- What holds of pooled spots beside the rule; proofs/Theorems.antt proves it. Assumes nothing.
use Rattle.std.specs.Prelude.{◌≡◌, false, ℕ, ◌*◌, ◌≤◌, ◌<◌, min, max, length, get_or, replicate}
use mathlib.Core.List.{List, [], ◌∷◌, flatten, Permᴰ}
use Rattle.causes.specs.Causes.{accepted}
use Rattle.cie.specs.Scales.{any_above, frame_limit}
use Rattle.cie.specs.Spacing.{rows_at}
use Rattle.pool.specs.Spots.{spots_of, at_row}
use Rattle.pool.specs.Pooling.{pooled, spots_at, places_after_pool}

-- "the spots one after another in a lent slice": joined, the spots that a slice is read as are the slice; and spots that are joined are read as
-- these
pub record OneAfterAnother : Type 0 where
  pub joined : (rows count : ℕ) (readings : List ℕ) → length readings ≡ rows * count → flatten (spots_of rows count readings) ≡ readings
  pub taken_apart : (rows : ℕ) (spots : List (List ℕ)) → ((i : ℕ) → i < length spots → length (get_or spots i []) ≡ rows)
      → spots_of rows (length spots) (flatten spots) ≡ spots

-- "The order of the spots makes no difference.": two slices of one length whose spots are the same, in any order, are answered alike and leave the
-- same in the places, refused ones too
abbrev pub AnySpotOrder : Type 0
AnySpotOrder =
    (spacing count : ℕ) (readings others places : List ℕ) → length readings ≡ length others
    → Permᴰ (spots_at spacing count readings) (spots_at spacing count others)
    → (pooled spacing count readings (length places) ≡ pooled spacing count others (length places))
    × (places_after_pool spacing count readings places ≡ places_after_pool spacing count others places)

-- the smallest and the largest of some readings; 0 where there is none
unfoldable pub smallest_of : List ℕ → ℕ
smallest_of [] = 0
smallest_of (r ∷ []) = r
smallest_of (r ∷ s ∷ rs) = min r (smallest_of (s ∷ rs))

unfoldable pub largest_of : List ℕ → ℕ
largest_of [] = 0
largest_of (r ∷ rs) = max r (largest_of rs)

-- a spectrum of so many rows that obeys the frame's limit and lies, at each row, between the smallest and the largest of the spots
pub record AmongSpots (rows : ℕ) (spots : List (List ℕ)) (spectrum : List ℕ) : Type 0 where
  pub whole : length spectrum ≡ rows
  pub limit : any_above frame_limit spectrum ≡ false
  pub smallest : (row : ℕ) → row < rows → smallest_of (at_row spots row) ≤ get_or spectrum row 0
  pub largest : (row : ℕ) → row < rows → get_or spectrum row 0 ≤ largest_of (at_row spots row)

-- "Readings obey the 12,000 limit, and so does the pooled one.": and what an accepted pooling leaves is among its spots
abbrev pub PooledAmong : Type 0
PooledAmong =
    (spacing count : ℕ) (readings places : List ℕ) → pooled spacing count readings (length places) ≡ accepted 0
    → AmongSpots (rows_at spacing) (spots_at spacing count readings) (places_after_pool spacing count readings places)

-- spots that are all equal pool to that spot
abbrev pub EqualSpots : Type 0
EqualSpots =
    (spacing count : ℕ) (readings spot places : List ℕ) → pooled spacing count readings (length places) ≡ accepted 0
    → spots_at spacing count readings ≡ replicate count spot → places_after_pool spacing count readings places ≡ spot
