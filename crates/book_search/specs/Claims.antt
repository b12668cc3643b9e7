-- Document 02, "Nearest shade in the time there is": what is claimed of a search in a book, by the colour that readings have; proofs/Theorems.antt
-- proves it. Assumes nothing.
use Rattle.std.specs.Prelude.{◌≡◌, true, false, List, ℕ, ◌+◌, ◌≤◌}
use Rattle.cie.specs.declared.Colour.{Colour}
use Rattle.cie.specs.Colour.{lab_difference}
use Rattle.book.specs.Book.{numbers_of, is_book, is_in, shade_of}
use Rattle.nearest.specs.Rule.{NearestOutcome}
use Rattle.book_search.specs.Shades.{nearest_by}
use Rattle.book_search.specs.Searching.{empty_look}

-- E of the swatch and a book's shade of a number
abbrev pub e_of : (List ℕ → Colour) → ℕ → List ℕ → List ℕ → ℕ → ℕ
e_of colour rows swatch book k = (lab_difference (colour swatch) (colour (shade_of rows book k))).0

pub record NearestTold (colour : List ℕ → Colour) (rows budget : ℕ) (swatch book : List ℕ) (a : NearestOutcome) : Type 0 where
  -- the best shade is one of the book, and E is its own
  pub in_book : is_in a.shade (numbers_of book) ≡ true
  pub own : a.e ≡ e_of colour rows swatch book a.shade
  -- "No shade in the book has an E below the best by more than the gap."
  pub near : (k : ℕ) → is_in k (numbers_of book) ≡ true → a.e ≤ e_of colour rows swatch book k + a.gap
  -- with a gap of 0 the best is the nearest of all
  pub nearest_of_all : a.gap ≡ 0 → (k : ℕ) → is_in k (numbers_of book) ≡ true → a.e ≤ e_of colour rows swatch book k
  -- "The count .. never exceeds the budget."
  pub within : a.count ≤ budget

-- of every book with a shade and every budget above 0, whatever colours readings have
pub record NearestInBook : Type 0 where
  pub told : (colour : List ℕ → Colour) (rows budget : ℕ) (swatch book : List ℕ) → is_book rows book ≡ true → empty_look budget book ≡ false →
      NearestTold colour rows budget swatch book (nearest_by colour rows budget swatch book)
