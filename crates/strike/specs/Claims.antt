-- What holds of strikes beside the rule, at each spacing; proofs/Theorems.antt proves it. Assumes nothing.
use Rattle.std.specs.Prelude.{ℕ, ◌+◌, ◌≡◌, true, List, length, take}
use Rattle.causes.specs.declared.Cause.TheVariants.{NoSuchShade}
use Rattle.causes.specs.Causes.{Numbered, accepted, refused, refusal}
use Rattle.cie.specs.Spacing.{rows_at}
use Rattle.endian.specs.Bytes.{AllBelow}
use Rattle.book.specs.Book.{entry_length, body_length, is_book}
use Rattle.book.specs.Reading.{found, places_after_read}
use Rattle.strike.specs.Striking.{struck, buffer_after_strike}

-- "the book that the first left": the front of the buffer, as long as the strike answers; all of it where the strike is refused
abbrev pub length_left : Numbered ℕ → ℕ → ℕ
length_left (accepted n) room = n
length_left (refused cause) room = room

unfoldable pub book_left : ℕ → ℕ → List ℕ → List ℕ
book_left spacing number book = take (length_left (struck spacing number book) (length book)) (buffer_after_strike spacing number book)

-- "Two strikes of different shades, the second lent only the book that the first left, leave the same book in either order.": both second strikes are
-- accepted, answer the same length and leave the same buffer
pub record BothStruck (spacing j k : ℕ) (book : List ℕ) : Type 0 where
  pub n : ℕ
  pub k_after_j : struck spacing k (book_left spacing j book) ≡ accepted n
  pub j_after_k : struck spacing j (book_left spacing k book) ≡ accepted n
  pub same_buffer : buffer_after_strike spacing k (book_left spacing j book) ≡ buffer_after_strike spacing j (book_left spacing k book)

pub record EitherOrder (spacing : ℕ) : Type 0 where
  -- whatever the bytes are, and whether the strikes are accepted or refused
  pub same_book : (bytes : List ℕ) (j k : ℕ) → AllBelow 256 bytes
      → book_left spacing k (book_left spacing j bytes) ≡ book_left spacing j (book_left spacing k bytes)
  -- of two different shades that the book has
  pub both : (book : List ℕ) (j k m n : ℕ) → AllBelow 256 book → (j ≡ k → ⊥)
      → struck spacing j book ≡ accepted m → struck spacing k book ≡ accepted n → BothStruck spacing j k book

-- What a strike leaves is a book, shorter by one entry and one body. What is struck is then "no such shade", and every other number is answered as
-- before and leaves the same in the places.
pub record TakenOut (spacing number : ℕ) (before after : List ℕ) : Type 0 where
  pub book : is_book (rows_at spacing) after ≡ true
  pub shorter : length before ≡ length after + (entry_length + body_length (rows_at spacing))
  pub gone : found spacing after number (rows_at spacing) ≡ refusal NoSuchShade
  pub not_again : struck spacing number after ≡ refusal NoSuchShade
  pub answers : (other places : ℕ) → (other ≡ number → ⊥) → found spacing after other places ≡ found spacing before other places
  pub reads : (other : ℕ) (places : List ℕ) → (other ≡ number → ⊥) → places_after_read spacing after other places ≡ places_after_read spacing before other places

-- "take the entry and its body out and close the book up"
abbrev pub StrikeTakesOut : ℕ → Type 0
StrikeTakesOut spacing =
    (book : List ℕ) (number n : ℕ) → AllBelow 256 book → struck spacing number book ≡ accepted n
    → TakenOut spacing number book (book_left spacing number book)
