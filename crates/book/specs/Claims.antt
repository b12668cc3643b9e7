-- What is true of every book, at any number of rows of a body; proofs/Theorems.antt proves it. Assumes nothing.
use Rattle.std.specs.Prelude.{ℕ, ◌<◌, ◌≡◌, true, false, List, [], ◌∷◌, ◌++◌}
use Rattle.endian.specs.Bytes.{AllBelow}
use Rattle.book.specs.Book.{magic, body_length, book_of, count_of, numbers_of, body_length_at, first_body_length, readings_of, is_book}

-- Every book is the book of its shades.
abbrev pub BookOfItsShades : ℕ → Type 0
BookOfItsShades rows = (s : List ℕ) → AllBelow 256 s → is_book rows s ≡ true → s ≡ book_of rows (numbers_of s) (readings_of rows s)

-- Two books with the same shades are the same bytes.
abbrev pub SameShadesSameBook : ℕ → Type 0
SameShadesSameBook rows =
    (s t : List ℕ) → AllBelow 256 s → AllBelow 256 t → is_book rows s ≡ true → is_book rows t ≡ true
    → numbers_of s ≡ numbers_of t → readings_of rows s ≡ readings_of rows t → s ≡ t

-- "an empty book is the same six bytes for both": the book of no shades is, these bytes are a book, and no other book has no shades
abbrev pub empty_book : List ℕ
empty_book = magic ++ (0 ∷ 0 ∷ [])

pub record OneEmptyBook (rows : ℕ) : Type 0 where
  pub of_no_shades : book_of rows [] [] ≡ empty_book
  pub book : is_book rows empty_book ≡ true
  pub only : (s : List ℕ) → AllBelow 256 s → is_book rows s ≡ true → count_of s ≡ 0 → s ≡ empty_book

-- "a mixed one .. is cause 11": bytes of which one entry names another body length are no book
abbrev pub MixedIsNoBook : ℕ → Type 0
MixedIsNoBook rows = (s : List ℕ) (i : ℕ) → i < count_of s → (body_length_at s i ≡ body_length rows → ⊥) → is_book rows s ≡ false

-- "or one of another spacing than the call names": a book with a shade is no book at another number of rows
abbrev pub OtherRowsNoBook : ℕ → ℕ → Type 0
OtherRowsNoBook rows other = (s : List ℕ) → is_book rows s ≡ true → 0 < count_of s → (rows ≡ other → ⊥) → is_book other s ≡ false

-- "The listing goes by the first body length.": in a book with a shade it is that of the book's rows
abbrev pub FirstLengthTells : ℕ → Type 0
FirstLengthTells rows = (s : List ℕ) → is_book rows s ≡ true → 0 < count_of s → first_body_length s ≡ body_length rows
