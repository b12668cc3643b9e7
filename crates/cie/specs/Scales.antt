-- Document 01, "From readings to sums": how large the entries of the rows may be. Assumes nothing.
use Rattle.std.specs.Prelude.{Bool, false, ◌||◌, List, [], ◌∷◌, ℕ, ltb}

-- "A reading is a reflectance in 1/10,000, from 0 to 20,000.": the reader's limit, which is also the listing's and the host call's. Document 02:
-- "Books already written may hold up to 20,000: they still read and list, and the host call still takes them"
abbrev pub reader_limit : ℕ
reader_limit = 20000

-- the frame's limit: "Standards, trials, previews and the book writer now meet 'over-bright' above 12,000."
abbrev pub frame_limit : ℕ
frame_limit = 12000

-- "An illuminant is 81 whole numbers in 1/10,000, each 0 to 3,000,000."
abbrev pub illuminant_limit : ℕ
illuminant_limit = 3000000

-- "An observer is three columns (x, y, z) of 81 whole numbers in 1/1,000,000, each 0 to 2,000,000."
abbrev pub column_limit : ℕ
column_limit = 2000000

-- "Xn, Yn, Zn are the same sums with every reading 10,000."
abbrev pub white_reading : ℕ
white_reading = 10000

-- whether an entry is above the limit
unfoldable pub any_above : ℕ → List ℕ → Bool
any_above limit [] = false
any_above limit (x ∷ xs) = ltb limit x || any_above limit xs
