-- Document 02, "Nearest shade in the time there is": the checks of a search, and what it answers under conditions, refusals included.
-- Assumes nothing.
use Rattle.std.specs.Prelude.{◌≡◌, Bool, true, false, not, ◌||◌, List, [], ◌∷◌, ◌++◌, ℕ, ◌≤◌, eqb, Result, Ok, Err}
use Rattle.causes.specs.declared.Cause.{Cause}
use Rattle.causes.specs.declared.Cause.TheVariants.{NoConditions, NotABook, EmptyLook}
use Rattle.causes.specs.Causes.{Numbered, accepted, refused, refusal}
use Rattle.causes.specs.Checks.{Check, check, first_of, numbered}
use Rattle.cie.specs.declared.Colour.{Colour}
use Rattle.cie.specs.Scales.{frame_limit}
use Rattle.cie.specs.Sizes.{Sized}
use Rattle.conditions.specs.declared.Conditions.{Conditions}
use Rattle.conditions.specs.Checks.{spectrum_checks}
use Rattle.conditions.specs.Conditions.{Sound}
use Rattle.conditions.specs.Measure.{colour_under}
use Rattle.book.specs.Book.{count_of, is_book}
use Rattle.nearest.specs.declared.Search.{Search}
use Rattle.nearest.specs.Rule.{NearestOutcome}
use Rattle.nearest.specs.Order.{number_in, keys_of, gap_of}
use Rattle.book_search.specs.declared.NearestAnswer.{NearestAnswer}
use Rattle.book_search.specs.Shades.{book_beside, nearest_by}

-- 20, empty look: "book without shades or budget 0"
abbrev pub empty_look : ℕ → List ℕ → Bool
empty_look budget book = eqb (count_of book) 0 || eqb budget 0

-- "Checks: 6, 1, 2, 11, then the new one."; "The swatch obeys 12,000, book readings the reader's limit, and the book must have the spacing in
-- force, else 11."
abbrev pub search_checks : Bool → ℕ → ℕ → List ℕ → List ℕ → List Check
search_checks opened rows budget swatch book =
    (check (not opened) NoConditions ∷ spectrum_checks frame_limit rows swatch)
    ++ (check (not (is_book rows book)) NotABook ∷ check (empty_look budget book) EmptyLook ∷ [])

-- what a search answers, in the paper's numbers and values
abbrev pub nearest_outcome : NearestAnswer → NearestOutcome
nearest_outcome a = record { count = a.count; shade = a.shade; gap = a.gap.0; e = a.e.0 }

abbrev pub search_answer : Result NearestAnswer Cause → Numbered NearestOutcome
search_answer (Ok a) = accepted (nearest_outcome a)
search_answer (Err cause) = refusal cause

-- what a search finds under conditions
unfoldable pub searched_under : Conditions → Bool → ℕ → List ℕ → List ℕ → Numbered NearestOutcome
searched_under c opened budget swatch book =
    numbered (first_of (search_checks opened c.rows budget swatch book)) (nearest_by (colour_under c) c.rows budget swatch book)

-- "The count .. never exceeds the budget."
abbrev pub WithinBudget : ℕ → Numbered NearestOutcome → Type 0
WithinBudget budget (accepted a) = a.count ≤ budget
WithinBudget budget (refused cause) = Unit

-- a search that goes on no more, as it answers
abbrev pub end_of : Search → List ℕ → NearestOutcome
end_of s keys = record { count = s.count; shade = number_in s.best; gap = gap_of s keys; e = s.e }

-- what a search is given: sound conditions, a swatch's colour, a book with a shade, a budget, and the keys of the book's shades
pub record Searchable (budget : ℕ) (swatch : Colour) (book keys : List ℕ) (c : Conditions) : Type 0 where
  pub sound : Sound c
  pub sized : Sized swatch
  pub is_book_holds : is_book c.rows book ≡ true
  pub some : empty_look budget book ≡ false
  pub keyed : keys ≡ keys_of (book_beside (colour_under c) c.rows swatch book)
