-- Weights: illuminant × column, row by row, prepared once so that a sum is one product a row. Assumes nothing.
use Rattle.std.specs.Prelude.{◌≡◌, false, List, [], ◌∷◌, ℕ, ◌+◌, ◌*◌, ◌≤◌, length, drop, replicate}
use Rattle.cie.specs.declared.Sums.{Sums}
use Rattle.cie.specs.Spacing.{most_rows, filled}
use Rattle.cie.specs.Scales.{reader_limit, white_reading, illuminant_limit, column_limit, any_above}

-- the products, row by row
unfoldable pub products_of : List ℕ → List ℕ → List ℕ
products_of [] cs = []
products_of (i ∷ is) [] = []
products_of (i ∷ is) (c ∷ cs) = (i * c) ∷ products_of is cs

-- the products, and zeros past the last of them
unfoldable pub weights_of : List ℕ → List ℕ → List ℕ
weights_of is cs = filled (products_of is cs)

-- the sum of reading × weight over the readings' own rows
unfoldable pub dot : List ℕ → List ℕ → ℕ
dot [] ws = 0
dot (r ∷ rs) [] = 0
dot (r ∷ rs) (w ∷ ws) = r * w + dot rs ws

abbrev pub dots : List ℕ → List ℕ → List ℕ → List ℕ → Sums
dots x y z readings = record { x = dot readings x; y = dot readings y; z = dot readings z }

-- "every reading 10,000"
abbrev pub white_readings : List ℕ
white_readings = replicate most_rows white_reading

-- readings that can be summed: "any number of rows up to 81", and none above the reader's limit, which is the wider
pub record Spectrum (readings : List ℕ) : Type 0 where
  pub few : length readings ≤ most_rows
  pub scale : any_above reader_limit readings ≡ false

-- a column of weights: as many as there are rows at most, none above the product of the two limits; past the last row of its tables they are zeros
pub record Weights (ws : List ℕ) : Type 0 where
  pub length_is : length ws ≡ most_rows
  pub scale : any_above (illuminant_limit * column_limit) ws ≡ false

-- the most that one row adds to a sum
abbrev pub row_limit : ℕ
row_limit = reader_limit * (illuminant_limit * column_limit)

-- the sum of the rows before i: the rows that are left make it the whole
pub record Summed (readings ws : List ℕ) (sum i : ℕ) : Type 0 where
  pub upto : sum ≤ row_limit * i
  pub left : sum + dot (drop i readings) (drop i ws) ≡ dot readings ws

-- the three sums of the rows before i, of readings by weights that can be summed
pub record Begun (readings x y z : List ℕ) (sums : Sums) (i : ℕ) : Type 0 where
  pub spectrum : Spectrum readings
  pub weights_x : Weights x
  pub weights_y : Weights y
  pub weights_z : Weights z
  pub in_x : Summed readings x sums.x i
  pub in_y : Summed readings y sums.y i
  pub in_z : Summed readings z sums.z i
