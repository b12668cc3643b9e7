-- Document 02, "Several spots, one reading": the rule, at any number of rows. Assumes nothing.
use Rattle.std.specs.Prelude.{◌≡◌, Bool, false, ◌||◌, ℕ, zero, suc, ◌+◌, ◌*◌, ◌/◌, ◌≤◌, ◌<◌, ltb, length, get_or, take, drop}
use mathlib.Core.List.{List, [], ◌∷◌, map, foldr}
use Rattle.cie.specs.Scales.{any_above, frame_limit}
use Rattle.cie.specs.Spacing.{most_rows}

-- "Pile fabric is measured at 2 to 16 spots."
abbrev pub fewest_spots : ℕ
fewest_spots = 2

abbrev pub most_spots : ℕ
most_spots = 16

-- 19, spot count: "fewer than 2 or more than 16"
abbrev pub off_count : ℕ → Bool
off_count count = ltb count fewest_spots || ltb most_spots count

-- "the spots one after another in a lent slice": so many, of so many rows each
unfoldable pub spots_of : ℕ → ℕ → List ℕ → List (List ℕ)
spots_of rows zero readings = []
spots_of rows (suc count) readings = take rows readings ∷ spots_of rows count (drop rows readings)

-- what the spots have at one wavelength, by its row from 0
abbrev pub at_row : List (List ℕ) → ℕ → List ℕ
at_row spots row = map (λ (spot : List ℕ). get_or spot row 0) spots

unfoldable pub sum_of : List ℕ → ℕ
sum_of readings = foldr ◌+◌ 0 readings

-- "the sum plus half the number of spots (halves dropped), divided by that number, down"
unfoldable pub pooled_reading : List ℕ → ℕ
pooled_reading readings = (sum_of readings + length readings / 2) / length readings

-- "at each wavelength": of so many rows, from a row on
unfoldable pub pooled_from : List (List ℕ) → ℕ → ℕ → List ℕ
pooled_from spots row zero = []
pooled_from spots row (suc n) = pooled_reading (at_row spots row) ∷ pooled_from spots (suc row) n

-- "one pooled spectrum"
abbrev pub pooled_spectrum : ℕ → List (List ℕ) → List ℕ
pooled_spectrum rows spots = pooled_from spots 0 rows

-- readings that are so many spots, of so many rows each, none of them above the frame's limit
pub record WholeSpots (rows count : ℕ) (readings : List ℕ) : Type 0 where
  pub some : 0 < count
  pub few : count ≤ most_spots
  pub fit : rows ≤ most_rows
  pub whole : length readings ≡ rows * count
  pub fair : any_above frame_limit readings ≡ false
