-- Document 01, "Shade book": what a write at a spacing answers and what it leaves, refusals included. Assumes nothing.
use Rattle.std.specs.Prelude.{ℕ, ◌*◌, not, List, [], ◌∷◌, ◌++◌, length, drop, ltb, eqb}
use Rattle.causes.specs.declared.Cause.TheVariants.{ShortTable, OverBright, TooManyShades, OutOfOrder, ShortBuffer, UnknownSpacing}
use Rattle.causes.specs.Causes.{Numbered}
use Rattle.causes.specs.Checks.{Check, check, first_of, unless, numbered}
use Rattle.cie.specs.Scales.{any_above, frame_limit}
use Rattle.cie.specs.Spacing.{unknown_spacing, rows_at}
use Rattle.book.specs.Book.{most_shades, total, rising, book_of}

-- "Write (numbers, spectra, buffer): 1, 13, 14, 2, 15."; before them 17, "checked first in every call that names one"; 2 goes by the limit
unfoldable pub write_checks : ℕ → ℕ → List ℕ → List ℕ → ℕ → List Check
write_checks limit spacing numbers readings room =
    check (unknown_spacing spacing) UnknownSpacing
    ∷ check (not (eqb (length readings) (rows_at spacing * length numbers))) ShortTable
    ∷ check (ltb most_shades (length numbers)) TooManyShades
    ∷ check (not (rising 0 numbers)) OutOfOrder
    ∷ check (any_above limit readings) OverBright
    ∷ check (ltb room (total (rows_at spacing) (length numbers))) ShortBuffer
    ∷ []

-- "An accepted write returns the total."; what is written obeys the frame's limit
unfoldable pub written : ℕ → List ℕ → List ℕ → ℕ → Numbered ℕ
written spacing numbers readings room =
    numbered (first_of (write_checks frame_limit spacing numbers readings room)) (total (rows_at spacing) (length numbers))

-- "bytes past the end are untouched"
unfoldable pub buffer_after_write : ℕ → List ℕ → List ℕ → List ℕ → List ℕ
buffer_after_write spacing numbers readings buffer =
    unless (first_of (write_checks frame_limit spacing numbers readings (length buffer))) (λ _. buffer)
    (book_of (rows_at spacing) numbers readings ++ drop (total (rows_at spacing) (length numbers)) buffer)
