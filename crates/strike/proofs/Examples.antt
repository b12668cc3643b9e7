-- The rule by evaluation: a book of three shades of one row, and the second of them struck. Assumes nothing.
use mathlib.Core.Path.{◌≡◌, refl}
use mathlib.Core.List.{List, [], ◌∷◌}
use Prim.Native.Nat.{ℕ}
use lib.ListN.{length}
use Rattle.endian.specs.Bytes.{little_endian, from_little_endian, part, number_at, words, bytes_of}
use Rattle.book.specs.Book.{contents_of, entry_of, book_of, numbers_of, readings_in}
use Rattle.strike.specs.Striking.{remaining, book_without, closed_up}

abbrev three : List ℕ
three = book_of 1 (1 ∷ 258 ∷ 259 ∷ []) (10 ∷ 20000 ∷ 30 ∷ [])

-- the head with the count, an entry for each of the other two, their bodies, and zeros for the entry and the body that are gone
pub worked : closed_up (book_without 1 258 three) (length three)
    ≡ 0x53 ∷ 0x42 ∷ 0x4B ∷ 0x31 ∷ 2 ∷ 0
    ∷ 1 ∷ 0 ∷ 2 ∷ 0 ∷ 22 ∷ 0 ∷ 0 ∷ 0
    ∷ 3 ∷ 1 ∷ 2 ∷ 0 ∷ 24 ∷ 0 ∷ 0 ∷ 0
    ∷ 10 ∷ 0 ∷ 30 ∷ 0
    ∷ 0 ∷ 0 ∷ 0 ∷ 0 ∷ 0 ∷ 0 ∷ 0 ∷ 0 ∷ 0 ∷ 0 ∷ []
unfolding book_without remaining book_of contents_of entry_of numbers_of readings_in little_endian from_little_endian part number_at words bytes_of
worked = refl
