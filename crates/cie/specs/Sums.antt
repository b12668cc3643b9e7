-- Document 01, "From readings to sums", and the whites that an opening refuses. Assumes nothing.
use Rattle.std.specs.Prelude.{◌≡◌, Bool, false, ◌||◌, List, [], ◌∷◌, ℕ, ◌+◌, ◌*◌, ◌≤◌, ltb, eqb, length, replicate}
use Rattle.cie.specs.declared.Sums.{Sums}
use Rattle.cie.specs.Scales.{white_reading}

-- an illuminant and the three columns of an observer, with the spacing of their rows
pub record Tables : Type 0 where
  pub spacing : ℕ
  pub illuminant : List ℕ
  pub x : List ℕ
  pub y : List ℕ
  pub z : List ℕ

abbrev pub tables_of : ℕ → List ℕ → List ℕ → List ℕ → List ℕ → Tables
tables_of spacing illuminant x y z = record { spacing = spacing; illuminant = illuminant; x = x; y = y; z = z }

-- "the sum over the rows of reading × illuminant × x"
unfoldable pub row_sum : List ℕ → List ℕ → List ℕ → ℕ
row_sum [] is cs = 0
row_sum (r ∷ rs) [] cs = 0
row_sum (r ∷ rs) (i ∷ is) [] = 0
row_sum (r ∷ rs) (i ∷ is) (c ∷ cs) = r * i * c + row_sum rs is cs

-- "X is the sum over the rows of reading × illuminant × x; Y and Z likewise."
unfoldable pub sums_of : Tables → List ℕ → Sums
sums_of t readings =
    record { x = row_sum readings t.illuminant t.x; y = row_sum readings t.illuminant t.y; z = row_sum readings t.illuminant t.z }

-- "Xn, Yn, Zn are the same sums with every reading 10,000."
unfoldable pub white_of : Tables → Sums
white_of t = sums_of t (replicate (length t.illuminant) white_reading)

-- the sums with a row more
abbrev pub with_row : Sums → ℕ → ℕ → ℕ → ℕ → Sums
with_row s r x y z = record { x = s.x + r * x; y = s.y + r * y; z = s.z + r * z }

-- dark white: "Xn, Yn or Zn is 0"
abbrev pub dark : Sums → Bool
dark w = eqb w.x 0 || (eqb w.y 0 || eqb w.z 0)

-- lopsided white: "Xn or Zn above 10 × Yn"
abbrev pub lopsidedness : ℕ
lopsidedness = 10

abbrev pub lopsided : Sums → Bool
lopsided w = ltb (lopsidedness * w.y) w.x || ltb (lopsidedness * w.y) w.z

-- a white that an opening accepts
pub record White (w : Sums) : Type 0 where
  pub lit : dark w ≡ false
  pub even : lopsided w ≡ false

-- sums that no reading above 20,000 exceeds: N ≤ 2 D in each place
pub record AtMostTwice (w s : Sums) : Type 0 where
  pub x : s.x ≤ 2 * w.x
  pub y : s.y ≤ 2 * w.y
  pub z : s.z ≤ 2 * w.z
