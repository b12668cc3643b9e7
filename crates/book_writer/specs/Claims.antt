-- What a write promises to a later read, at each spacing, and what holds of books already written; proofs/Theorems.antt proves both.
-- Assumes nothing.
use Rattle.std.specs.Prelude.{ℕ, ◌<◌, ◌≡◌, true, List, length, get_or, take}
use Rattle.std.specs.Prelude.{Ok}
use Rattle.causes.specs.Causes.{accepted}
use Rattle.causes.specs.Checks.{first_of}
use Rattle.cie.specs.Scales.{reader_limit}
use Rattle.cie.specs.Spacing.{rows_at}
use Rattle.endian.specs.Bytes.{AllBelow}
use Rattle.book.specs.Book.{book_of, numbers_of, readings_of, is_book, spectrum_of}
use Rattle.book.specs.Reading.{found, places_after_read}
use Rattle.book_writer.specs.Writing.{write_checks, written, buffer_after_write}

-- The bytes are a book at the spacing and read back as these shades, each number finding its own readings.
pub record ReadsBack (spacing : ℕ) (numbers readings bytes : List ℕ) : Type 0 where
  pub book : is_book (rows_at spacing) bytes ≡ true
  pub same_numbers : numbers_of bytes ≡ numbers
  pub same_readings : readings_of (rows_at spacing) bytes ≡ readings
  pub finds : (i : ℕ) (places : List ℕ) → i < length numbers → length places ≡ rows_at spacing
      → found spacing bytes (get_or numbers i 0) (length places) ≡ accepted 0
  pub own : (i : ℕ) (places : List ℕ) → i < length numbers → length places ≡ rows_at spacing
      → places_after_read spacing bytes (get_or numbers i 0) places ≡ spectrum_of (rows_at spacing) readings i

-- What an accepted write leaves in the buffer, up to the total that it returns, reads back at the same spacing. (Numbers are of 2 bytes.)
abbrev pub WrittenReadsBack : ℕ → Type 0
WrittenReadsBack spacing =
    (numbers readings buffer : List ℕ) (n : ℕ) → AllBelow 65536 numbers → written spacing numbers readings (length buffer) ≡ accepted n
    → ReadsBack spacing numbers readings (take n (buffer_after_write spacing numbers readings buffer))

-- "Books already written may hold up to 20,000: they still read": the book of shades that pass the writer's checks by the reader's limit reads back
-- as these shades.
abbrev pub StillReadsBack : ℕ → Type 0
StillReadsBack spacing =
    (numbers readings : List ℕ) (room : ℕ) → AllBelow 65536 numbers → first_of (write_checks reader_limit spacing numbers readings room) ≡ Ok tt
    → ReadsBack spacing numbers readings (book_of (rows_at spacing) numbers readings)
