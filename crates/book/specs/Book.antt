-- Document 01, "Shade book", at any number of rows: 81, and by document 02 also 41. "A book holds one spacing, with body length 162 or 82
-- throughout". Assumes nothing.
use Rattle.std.specs.Prelude.{ℕ, zero, suc, ◌+◌, ◌*◌, ◌≤◌, Bool, true, false, ◌&&◌, ◌||◌, not, cond, List, [], ◌∷◌, ◌++◌, length, take, drop, leb, ltb, eqb}
use Rattle.cie.specs.Spacing.{spectrum_bytes}
use Rattle.cie.specs.Scales.{any_above, reader_limit}
use Rattle.endian.specs.Bytes.{le16, le32, at16, at32, words, bytes_of}

-- "It begins with the four bytes 53 42 4B 31 (hexadecimal)"
abbrev pub magic : List ℕ
magic = 0x53 ∷ 0x42 ∷ 0x4B ∷ 0x31 ∷ []

-- "then the number of shades n (2 bytes, 0 to 200)": its place, where the entries begin, and the most shades
abbrev pub count_place : ℕ
count_place = length magic

abbrev pub head_length : ℕ
head_length = count_place + 2

abbrev pub most_shades : ℕ
most_shades = 200

-- "then n entries of 8 bytes"
abbrev pub entry_length : ℕ
entry_length = 8

-- "Each body is 81 readings of 2 bytes", or 41: 162 bytes or 82
abbrev pub body_length : ℕ → ℕ
body_length rows = spectrum_bytes rows

-- where the bodies of n shades begin
abbrev pub bodies_at : ℕ → ℕ
bodies_at n = head_length + entry_length * n

-- "Total 6 + 170n bytes.", or 6 + 90n
abbrev pub total : ℕ → ℕ → ℕ
total rows n = head_length + (entry_length + body_length rows) * n

-- "shade number (2, strictly rising from at least 1)": rising from above a number
unfoldable pub rising : ℕ → List ℕ → Bool
rising before [] = true
rising before (x ∷ xs) = ltb before x && rising x xs

-- "shade number (2 ..), body length (2 ..), body offset from the file's first byte (4)"
unfoldable pub entry_of : ℕ → ℕ → ℕ → List ℕ
entry_of rows number offset = le16 number ++ (le16 (body_length rows) ++ le32 offset)

-- "Bodies touch, in the order of the entries": each body begins where the one before it ends
unfoldable pub contents_of : ℕ → ℕ → List ℕ → List ℕ
contents_of rows offset [] = []
contents_of rows offset (k ∷ ks) = entry_of rows k offset ++ contents_of rows (offset + body_length rows) ks

-- "Contents first, then bodies; little-endian.": the book of some shades, their numbers and the readings of all, one shade after the other
unfoldable pub book_of : ℕ → List ℕ → List ℕ → List ℕ
book_of rows numbers readings =
    magic ++ (le16 (length numbers) ++ (contents_of rows (bodies_at (length numbers)) numbers ++ bytes_of readings))

-- what a book holds: how many shades, their numbers, and the readings of all
abbrev pub count_of : List ℕ → ℕ
count_of s = at16 s count_place

unfoldable pub numbers_of : List ℕ → List ℕ
numbers_of s = words s head_length entry_length (count_of s)

unfoldable pub readings_in : ℕ → List ℕ → ℕ → List ℕ
readings_in rows s n = words s (bodies_at n) 2 (rows * n)

abbrev pub readings_of : ℕ → List ℕ → List ℕ
readings_of rows s = readings_in rows s (count_of s)

-- the body length that the i-th entry names, from 0
abbrev pub body_length_at : List ℕ → ℕ → ℕ
body_length_at s i = at16 s (head_length + entry_length * i + 2)

-- "The listing goes by the first body length.": 0 where the bytes end before the first entry does, as those of an empty book
unfoldable pub first_body_length : List ℕ → ℕ
first_body_length s = cond (leb (bodies_at 1) (length s)) (body_length_at s 0) 0

-- whether bytes begin with a text
unfoldable pub starts_with : List ℕ → List ℕ → Bool
starts_with [] s = true
starts_with (x ∷ xs) [] = false
starts_with (x ∷ xs) (y ∷ ys) = eqb y x && starts_with xs ys

-- whether the entry at a place has a number above the one before it, the body length of the rows, and the offset that is due
unfoldable pub entry_ok : ℕ → List ℕ → ℕ → ℕ → ℕ → Bool
entry_ok rows s at before offset =
    ltb before (at16 s at) && eqb (at16 s (at + 2)) (body_length rows) && eqb (at32 s (at + 4)) offset

-- whether n entries are right, from a place on
unfoldable pub entries_ok : ℕ → List ℕ → ℕ → ℕ → ℕ → ℕ → Bool
entries_ok rows s at before offset zero = true
entries_ok rows s at before offset (suc n) =
    entry_ok rows s at before offset && entries_ok rows s (at + entry_length) (at16 s at) (offset + body_length rows) n

-- the rules of a book; "the file ends with the last", and of its readings "none above 20,000"
unfoldable pub is_book : ℕ → List ℕ → Bool
is_book rows s =
    leb head_length (length s)
    && starts_with magic s
    && leb (count_of s) most_shades
    && eqb (length s) (total rows (count_of s))
    && entries_ok rows s head_length 0 (bodies_at (count_of s)) (count_of s)
    && not (any_above reader_limit (readings_of rows s))

-- bytes that have room for the contents, whatever the rows: every book's have
pub record Contents (s : List ℕ) : Type 0 where
  pub few : count_of s ≤ most_shades
  pub within : bodies_at (count_of s) ≤ length s

-- whether a number is in a list
unfoldable pub is_in : ℕ → List ℕ → Bool
is_in k [] = false
is_in k (x ∷ xs) = eqb x k || is_in k xs

-- the place of a number in a list, from 0; the list's length where it is not in it
unfoldable pub index_of : ℕ → List ℕ → ℕ
index_of k [] = 0
index_of k (x ∷ xs) = cond (eqb x k) 0 (suc (index_of k xs))

-- the i-th shade's readings among those of all
unfoldable pub spectrum_of : ℕ → List ℕ → ℕ → List ℕ
spectrum_of rows readings i = take rows (drop (rows * i) readings)

-- the readings of a book's shade of a number
unfoldable pub shade_of : ℕ → List ℕ → ℕ → List ℕ
shade_of rows s k = spectrum_of rows (readings_of rows s) (index_of k (numbers_of s))
