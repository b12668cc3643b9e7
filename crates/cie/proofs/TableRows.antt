-- Laws of the rows at a spacing, of rows held in an array, and of every second row. Assumes nothing.
use mathlib.Core.Path.{◌≡◌, refl, sym, ap, ◌∙◌}
use mathlib.Core.Bool.{Bool, true, false, cond, not, ◌||◌, true≢false}
use mathlib.Core.Logic.{◌⊎◌, inl, inr}
use mathlib.Core.List.{List, [], ◌∷◌, ◌++◌, append-nil}
use Prim.Native.Nat.{ℕ, zero, suc, ◌+◌, ◌-◌, ◌*◌, ◌≤◌}
use native.Mathlib.Omega.{arith}
use borrow.Author.Tests.{eqb-true}
use lib.Dec.{eqb, lit≤}
use lib.ListN.{length, get_or, take, drop, replicate, length-append, length-replicate, replicate-append-replicate}
use lib.Seq.{sets, length-take-le, take_at, drop_at}
use Rattle.stores.proofs.Runs.{sets_front}
use Rattle.cie.specs.Spacing.{fine_spacing, coarse_spacing, unknown_spacing, coarse_rows, most_rows, rows_at, filled, spectrum_bytes, spacing_told}
use Rattle.cie.specs.Lights.{every_second, table_at}

-- no spacing has more than 81 rows
pub rows_few : (spacing : ℕ) → rows_at spacing ≤ most_rows
unfolding rows_at
rows_few spacing = go (eqb spacing coarse_spacing)
  where
    go : (t : Bool) → cond t coarse_rows most_rows ≤ most_rows
    go true = lit≤ tt
    go false = lit≤ tt

abbrev zeros : ℕ → List ℕ
zeros n = replicate n 0

length_zeros : (n : ℕ) → length (zeros n) ≡ n
length_zeros n = length-replicate {A = ℕ} n 0

-- the front of an array with room for the most rows, as a program lends it, and places for rows, of an array of zeros
pub part_length : {n : ℕ} (array : List ℕ) → n ≤ most_rows → length array ≡ most_rows → length (take n array) ≡ n
part_length {n} array h e = length-take-le n array (omega arith)

pub places_length : {n : ℕ} → n ≤ most_rows → length (take n (zeros most_rows)) ≡ n
places_length h = part_length (zeros most_rows) h (length_zeros most_rows)

-- rows in such an array: how long it is, what a program's stores make of zeros, and that the rows are its front
module _ (rows : List ℕ) (few : length rows ≤ most_rows) where
  pub filled_length : length (filled rows) ≡ most_rows
  unfolding filled
  filled_length = length-append rows (zeros (most_rows - length rows)) ∙ omega (arith, length_zeros (most_rows - length rows))

  pub filled_stored : sets (zeros most_rows) 0 rows ≡ filled rows
  unfolding filled
  filled_stored =
      let n : ℕ = length rows in
      let whole : n + (most_rows - n) ≡ most_rows = omega arith in
      let split : zeros n ++ zeros (most_rows - n) ≡ zeros most_rows = replicate-append-replicate {A = ℕ} n (most_rows - n) 0 ∙ ap zeros whole in
      sets_front (zeros most_rows) rows (omega (arith, length_zeros most_rows))
      ∙ ap (λ (r : List ℕ). rows ++ drop n r) (sym split)
      ∙ ap (λ (r : List ℕ). rows ++ r) (drop_at (zeros n) (zeros (most_rows - n)) n (length_zeros n))

pub filled_front : (rows : List ℕ) (n : ℕ) → length rows ≡ n → take n (filled rows) ≡ rows
unfolding filled
filled_front rows n e = take_at rows (zeros (most_rows - length rows)) n e

pub filled_whole : (rows : List ℕ) → length rows ≡ most_rows → filled rows ≡ rows
unfolding filled
filled_whole rows e =
    let none : most_rows - length rows ≡ 0 = omega arith in
    ap (λ (n : ℕ). rows ++ zeros n) none ∙ append-nil rows

-- every second row: how many there are, and which they are
pub second_length : (table : List ℕ) → (length table ≤ 2 * length (every_second table)) × (2 * length (every_second table) ≤ length table + 1)
unfolding every_second
second_length [] = (omega arith, omega arith)
second_length (x ∷ []) = (omega arith, omega arith)
second_length (x ∷ y ∷ xs) = let h = second_length xs in (omega (arith, h.0), omega (arith, h.1))

two_on : (table : List ℕ) (i : ℕ) → get_or table (suc (suc (2 * i))) 0 ≡ get_or table (2 * suc i) 0
two_on table i = ap (λ (k : ℕ). get_or table k 0) (omega arith)

pub second_at : (table : List ℕ) (i : ℕ) → get_or (every_second table) i 0 ≡ get_or table (2 * i) 0
unfolding every_second
second_at [] i = refl
second_at (x ∷ []) zero = refl
second_at (x ∷ []) (suc i) = two_on (x ∷ []) i
second_at (x ∷ y ∷ xs) zero = refl
second_at (x ∷ y ∷ xs) (suc i) = second_at xs i ∙ two_on (x ∷ y ∷ xs) i

-- a built-in table has the rows of its spacing
pub table_length : (spacing : ℕ) (table : List ℕ) → length table ≡ most_rows → length (table_at spacing table) ≡ rows_at spacing
unfolding rows_at table_at
table_length spacing table e = go (eqb spacing coarse_spacing)
  where
    go : (t : Bool) → length (cond t (every_second table) table) ≡ cond t coarse_rows most_rows
    go true = omega (arith, (second_length table).0, (second_length table).1)
    go false = e

-- a spacing that is not unknown is one of the two
pub spacing_known : (spacing : ℕ) → unknown_spacing spacing ≡ false → (spacing ≡ fine_spacing) ⊎ (spacing ≡ coarse_spacing)
spacing_known spacing h = go (eqb spacing fine_spacing) (eqb spacing coarse_spacing) refl refl h
  where
    go : (a b : Bool) → eqb spacing fine_spacing ≡ a → eqb spacing coarse_spacing ≡ b → not (a || b) ≡ false →
        (spacing ≡ fine_spacing) ⊎ (spacing ≡ coarse_spacing)
    go true b d e k = inl (eqb-true spacing fine_spacing d)
    go false true d e k = inr (eqb-true spacing coarse_spacing e)
    go false false d e k = absurd (true≢false k)

-- a spacing that a length tells is one of the two
pub told_known : (bytes : ℕ) → unknown_spacing (spacing_told bytes) ≡ false
unfolding spacing_told
told_known bytes = go (eqb bytes (spectrum_bytes coarse_rows))
  where
    go : (t : Bool) → unknown_spacing (cond t coarse_spacing fine_spacing) ≡ false
    go true = refl
    go false = refl
