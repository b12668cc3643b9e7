-- Document 02, "Readings every 10 nm": the spacings of the rows, and how many rows each has. Assumes nothing.
use Rattle.std.specs.Prelude.{Bool, cond, not, ◌||◌, List, ◌++◌, ℕ, ◌-◌, ◌*◌, eqb, length, replicate}

-- "GB/T 3977 allows steps of 5 or 10 nm"
abbrev pub fine_spacing : ℕ
fine_spacing = 5

abbrev pub coarse_spacing : ℕ
coarse_spacing = 10

-- 17, unknown spacing: "neither 5 nor 10"
abbrev pub unknown_spacing : ℕ → Bool
unknown_spacing spacing = not (eqb spacing fine_spacing || eqb spacing coarse_spacing)

-- "A spectrum is 81 readings, 380 to 780 nm by 5 nm.": no spacing has more rows
abbrev pub most_rows : ℕ
most_rows = 81

-- "a cheaper head gives 41 readings, 380 to 780 nm"
abbrev pub coarse_rows : ℕ
coarse_rows = 41

-- "Spectra and tables then have 81 or 41 rows"
unfoldable pub rows_at : ℕ → ℕ
rows_at spacing = cond (eqb spacing coarse_spacing) coarse_rows most_rows

-- rows held in an array that has room for the most, with zeros past the last
unfoldable pub filled : List ℕ → List ℕ
filled rows = rows ++ replicate (most_rows - length rows) 0

-- "81 readings of 2 bytes", or 41: the bytes of a spectrum of so many rows
abbrev pub spectrum_bytes : ℕ → ℕ
spectrum_bytes rows = 2 * rows

-- "the length telling the spacing": the spacing of a spectrum that has so many bytes; a length that is neither is short at 5 nm
unfoldable pub spacing_told : ℕ → ℕ
spacing_told bytes = cond (eqb bytes (spectrum_bytes coarse_rows)) coarse_spacing fine_spacing
