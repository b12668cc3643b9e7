-- Document 01, "Shade book": what a read at a spacing answers and what it leaves, refusals included. Assumes nothing.
use Rattle.std.specs.Prelude.{ℕ, not, List, [], ◌∷◌, length, eqb, Result, Ok, Err}
use Rattle.causes.specs.declared.Cause.{Cause}
use Rattle.causes.specs.declared.Cause.TheVariants.{ShortTable, NotABook, NoSuchShade, UnknownSpacing}
use Rattle.causes.specs.Causes.{Numbered, accepted, refusal}
use Rattle.causes.specs.Checks.{Check, check, first_of, unless, numbered}
use Rattle.cie.specs.Spacing.{unknown_spacing, rows_at}
use Rattle.book.specs.Book.{numbers_of, is_book, is_in, shade_of}

-- what a read answers, in the paper's numbers
abbrev pub read_answer : Result (Unit {0}) Cause → Numbered ℕ
read_answer (Ok done) = accepted 0
read_answer (Err cause) = refusal cause

-- 11 and 12, for a shade of a book with so many rows to a body
unfoldable pub shade_checks : ℕ → List ℕ → ℕ → List Check
shade_checks rows book number =
    check (not (is_book rows book)) NotABook
    ∷ check (not (is_in number (numbers_of book))) NoSuchShade
    ∷ []

-- "Read one shade into 81 places: 1, 11, 12.", or into 41; before them 17, "checked first in every call that names one"
unfoldable pub read_checks : ℕ → List ℕ → ℕ → ℕ → List Check
read_checks spacing book number places =
    check (unknown_spacing spacing) UnknownSpacing
    ∷ check (not (eqb places (rows_at spacing))) ShortTable
    ∷ shade_checks (rows_at spacing) book number

unfoldable pub found : ℕ → List ℕ → ℕ → ℕ → Numbered ℕ
found spacing book number places = numbered (first_of (read_checks spacing book number places)) 0

unfoldable pub places_after_read : ℕ → List ℕ → ℕ → List ℕ → List ℕ
places_after_read spacing book number places =
    unless (first_of (read_checks spacing book number (length places))) (λ _. places) (shade_of (rows_at spacing) book number)
