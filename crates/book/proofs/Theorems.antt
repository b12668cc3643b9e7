-- The claims of specs/Claims.antt: a book is the book of its shades, so the shades decide its bytes; and each of its entries names the body
-- length of its rows. Assumes nothing.
use mathlib.Core.Path.{◌≡◌, refl, sym, ap, ◌∙◌}
use mathlib.Core.Bool.{Bool, true, false, not}
use Prim.Native.Nat.{ℕ, ◌*◌, ◌≤◌}
use native.Mathlib.Omega.{arith}
use native.Mathlib.Nat.{mul-zero}
use mathlib.Core.List.{List, []}
use lib.ListN.{length}
use borrow.Author.Tests.{le-leb}
use Rattle.cie.specs.Scales.{reader_limit}
use Rattle.endian.specs.Bytes.{little_endian, from_little_endian, part, number_at, bytes_of}
use Rattle.endian.proofs.Words.{words_none}
use Rattle.book.specs.Book.{head_length, entry_length, bodies_at, starts_with, entries_ok, contents_of, book_of, count_of, numbers_of, first_body_length}
use Rattle.book.specs.Book.{readings_in, readings_of, is_book}
use Rattle.book.specs.Claims.{BookOfItsShades, SameShadesSameBook, empty_book, OneEmptyBook, MixedIsNoBook, OtherRowsNoBook, FirstLengthTells}
use Rattle.book.proofs.Tests.{bodies_all, bodies_end}
use Rattle.book.proofs.Rules.{rules, last_rule, body_lengths}
use Rattle.book.proofs.Whole.{book_of_shades}

pub book_of_its_shades : (rows : ℕ) → BookOfItsShades rows
book_of_its_shades rows s b = book_of_shades rows s b

pub same_shades_same_book : (rows : ℕ) → SameShadesSameBook rows
same_shades_same_book rows s t bs bt hs ht p q = book_of_shades rows s bs hs ∙ (cc) ∙ sym (book_of_shades rows t bt ht)

-- the empty book
of_no_shades : (rows : ℕ) → book_of rows [] [] ≡ empty_book
unfolding book_of contents_of bytes_of little_endian
of_no_shades rows = refl

none_counted : count_of empty_book ≡ 0
unfolding number_at from_little_endian part
none_counted = refl

empty_is_book : (rows : ℕ) → is_book rows empty_book ≡ true
unfolding starts_with entries_ok
empty_is_book rows =
    sym (last_rule rows empty_book (sym none_counted) (omega arith) refl (omega arith) (omega arith) refl)
    ∙ ap not (bodies_all reader_limit rows empty_book 0 ∙ sym (bodies_end reader_limit rows empty_book 0 0 (omega arith)))

no_others : (rows : ℕ) (s : List ℕ) → count_of s ≡ 0 → book_of rows (numbers_of s) (readings_of rows s) ≡ empty_book
unfolding numbers_of readings_in
no_others rows s e =
    let none : rows * count_of s ≡ 0 = ap (λ (k : ℕ). rows * k) e ∙ mul-zero rows in
    rw (words_none s head_length entry_length (count_of s) (omega arith), words_none s (bodies_at (count_of s)) 2 (rows * count_of s) (omega arith))
    (of_no_shades rows)

pub one_empty_book : (rows : ℕ) → OneEmptyBook rows
one_empty_book rows =
    record {
      of_no_shades = of_no_shades rows;
      book = empty_is_book rows;
      only = λ s b book e. book_of_shades rows s b book ∙ no_others rows s e;
    }

-- the body lengths
pub mixed_is_no_book : (rows : ℕ) → MixedIsNoBook rows
mixed_is_no_book rows s i h other = go (is_book rows s) refl
  where
    go : (t : Bool) → is_book rows s ≡ t → t ≡ false
    go true e = absurd (other (body_lengths rows s e i h))
    go false e = refl

pub other_rows_no_book : (rows other : ℕ) → OtherRowsNoBook rows other
other_rows_no_book rows other s book some differ =
    mixed_is_no_book other s 0 some (λ e. differ (omega (arith, body_lengths rows s book 0 some)))

pub first_length_tells : (rows : ℕ) → FirstLengthTells rows
unfolding first_body_length
first_length_tells rows s book some =
    let long : bodies_at 1 ≤ length s = omega (arith, (rules rows s book).whole) in
    rw (le-leb (bodies_at 1) (length s) long) (body_lengths rows s book 0 some)
