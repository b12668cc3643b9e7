-- What is known of the built-in tables, evaluated: what pins each of them, the whites of both lights at both spacings, the rows where document
-- 003 differs, and that the rows of each spacing go from 380 to 780 nm.
-- Assumes nothing.
use mathlib.Core.Path.{◌≡◌, refl}
use mathlib.Core.List.{List, [], ◌∷◌, ◌++◌}
use Prim.Native.Nat.{ℕ, suc, ◌+◌, ◌*◌, ◌-◌, ◌/◌}
use lib.ListN.{get_or, length}
use Rattle.cie.specs.declared.Sums.{Sums}
use Rattle.cie.specs.Spacing.{fine_spacing, coarse_spacing, rows_at}
use Rattle.cie.specs.Tables.{observer_x, observer_y, observer_z, illuminant_a, illuminant_d65}
use Rattle.cie.specs.Sums.{row_sum, sums_of, white_of}
use Rattle.cie.specs.Lights.{light_a, light_d65, every_second, table_at, light_tables}

-- the entry of a column at a wavelength in nm: 380 to 780 by 5
abbrev at : List ℕ → ℕ → ℕ
at column nm = get_or column ((nm - 380) / 5) 0

-- the sum of a table's entries, and the sum of row × entry from a row on: two entries exchanged change the second
unfoldable sum_of : List ℕ → ℕ
sum_of [] = 0
sum_of (x ∷ xs) = x + sum_of xs

unfoldable moment_from : ℕ → List ℕ → ℕ
moment_from row [] = 0
moment_from row (x ∷ xs) = row * x + moment_from (suc row) xs

-- what pins a table: its rows, its sum, and its sum of row × entry (rows from 1)
abbrev pinned : List ℕ → List ℕ
pinned table = length table ∷ sum_of table ∷ moment_from 1 table ∷ []

-- 100 × N / Yn in hundredths, rounded to the nearest, half up
abbrev hundredths : ℕ → ℕ → ℕ
hundredths N D = (2 * (10000 * N) + D) / (2 * D)

-- the white of a light at a spacing
abbrev white_hundredths : ℕ → ℕ → List ℕ
white_hundredths light spacing =
    let w : Sums = white_of (light_tables light spacing) in
    hundredths w.x w.y ∷ hundredths w.y w.y ∷ hundredths w.z w.y ∷ []

-- the wavelength of the last row, in nm
abbrev last_row : ℕ → ℕ
last_row spacing = 380 + spacing * (rows_at spacing - 1)

pub sweep : List ℕ
sweep =
    pinned observer_x
    ++ pinned observer_y
    ++ pinned observer_z
    ++ pinned illuminant_a
    ++ pinned illuminant_d65
    ++ white_hundredths light_a fine_spacing
    ++ white_hundredths light_d65 fine_spacing
    ++ white_hundredths light_a coarse_spacing
    ++ white_hundredths light_d65 coarse_spacing
    ++ (last_row fine_spacing ∷ last_row coarse_spacing ∷ [])
    ++ (at observer_z 465 ∷ at observer_x 515 ∷ at observer_y 595 ∷ at observer_x 610 ∷ [])

pub checked : sweep ≡
    (81 ∷ 21371524 ∷ 841042884 ∷ [])
    ++ (81 ∷ 21371327 ∷ 791559171 ∷ [])
    ++ (81 ∷ 21371540 ∷ 338058400 ∷ [])
    ++ (81 ∷ 95617213 ∷ 5320662554 ∷ [])
    ++ (81 ∷ 70927234 ∷ 2712674504 ∷ [])
    ++ (10985 ∷ 10000 ∷ 3558 ∷ [])
    ++ (9504 ∷ 10000 ∷ 10888 ∷ [])
    ++ (10983 ∷ 10000 ∷ 3555 ∷ [])
    ++ (9502 ∷ 10000 ∷ 10881 ∷ [])
    ++ (780 ∷ 780 ∷ [])
    ++ (1528100 ∷ 29100 ∷ 694900 ∷ 1002600 ∷ [])
unfolding sweep sum_of moment_from rows_at every_second table_at row_sum sums_of white_of observer_x observer_y observer_z illuminant_a illuminant_d65
checked = refl
