-- Document 02, "Strike a shade": what a strike at a spacing answers and what it leaves, refusals included. Assumes nothing.
use Rattle.std.specs.Prelude.{ℕ, ◌-◌, cond, List, [], ◌∷◌, ◌++◌, length, take, drop, replicate, eqb}
use Rattle.causes.specs.declared.Cause.TheVariants.{UnknownSpacing}
use Rattle.causes.specs.Causes.{Numbered}
use Rattle.causes.specs.Checks.{Check, check, first_of, unless, numbered}
use Rattle.cie.specs.Spacing.{unknown_spacing, rows_at}
use Rattle.book.specs.Book.{book_of, numbers_of, readings_of}
use Rattle.book.specs.Reading.{shade_checks}

-- "Checks: 17, 11, 12."
unfoldable pub strike_checks : ℕ → ℕ → List ℕ → List Check
strike_checks spacing number book = check (unknown_spacing spacing) UnknownSpacing ∷ shade_checks (rows_at spacing) book number

-- what remains of a list that has so many for each shade, one shade after the other: nothing of the shade of a number, all of the others
unfoldable pub remaining : ℕ → ℕ → List ℕ → List ℕ → List ℕ
remaining each number [] all = []
remaining each number (k ∷ ks) all = cond (eqb k number) [] (take each all) ++ remaining each number ks (drop each all)

-- "exactly the book of the remaining shades by document 01's layout": their numbers, and as many readings for each as there are rows
unfoldable pub book_without : ℕ → ℕ → List ℕ → List ℕ
book_without rows number book =
    book_of rows (remaining 1 number (numbers_of book) (numbers_of book)) (remaining rows number (numbers_of book) (readings_of rows book))

-- "the new length is returned"
unfoldable pub struck : ℕ → ℕ → List ℕ → Numbered ℕ
struck spacing number book = numbered (first_of (strike_checks spacing number book)) (length (book_without (rows_at spacing) number book))

-- "The first bytes are then exactly the book of the remaining shades .., the freed end is filled with zeros"
abbrev pub closed_up : List ℕ → ℕ → List ℕ
closed_up left room = left ++ replicate (room - length left) 0

unfoldable pub buffer_after_strike : ℕ → ℕ → List ℕ → List ℕ
buffer_after_strike spacing number book =
    unless (first_of (strike_checks spacing number book)) (λ _. book) (closed_up (book_without (rows_at spacing) number book) (length book))
