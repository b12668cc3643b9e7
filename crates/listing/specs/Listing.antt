-- Document 01, "Listing and host": the text of a book's listing, as ASCII codes. Assumes nothing.
use Rattle.std.specs.Prelude.{ℕ, cond, List, [], ◌∷◌, ◌++◌, take, drop}
use Rattle.causes.specs.declared.Cause.TheVariants.{NotABook}
use Rattle.causes.specs.Causes.{cause_number}
use Rattle.cie.specs.declared.Colour.{Colour}
use Rattle.cie.specs.Spacing.{rows_at, spacing_told}
use Rattle.cie.specs.Lights.{light_d65, light_tables}
use Rattle.cie.specs.Colour.{colour_at}
use Rattle.book.specs.Book.{is_book, numbers_of, first_body_length, readings_of}
use Rattle.text.specs.Text.{decimal, signed}

-- Document 02: "The listing goes by the first body length.": the spacing that it tells. A book of no shades has none, and is one at each spacing.
abbrev pub listed_spacing : List ℕ → ℕ
listed_spacing s = spacing_told (first_body_length s)

-- "opens light 2", at a spacing: the colour of a spectrum under it
unfoldable pub shade_colour : ℕ → List ℕ → Colour
shade_colour spacing readings = colour_at (light_tables light_d65 spacing) readings

-- a space before a text, and the line feed
abbrev pub spaced : List ℕ → List ℕ
spaced text = 32 ∷ text

abbrev pub line_end : List ℕ
line_end = 10 ∷ []

-- "one line per shade: shade number, L, a, b, u, v"; "Each line ends with a line feed"
unfoldable pub line_of : ℕ → Colour → List ℕ
line_of number c =
    decimal number ++ spaced (decimal c.l) ++ spaced (signed c.a) ++ spaced (signed c.b) ++ spaced (signed c.u) ++ spaced (signed c.v) ++ line_end

-- the lines of some shades at a spacing: their numbers, and the readings of all, one shade after the other
unfoldable pub lines_of : ℕ → List ℕ → List ℕ → List ℕ
lines_of spacing [] readings = []
lines_of spacing (k ∷ ks) readings =
    line_of k (shade_colour spacing (take (rows_at spacing) readings)) ++ lines_of spacing ks (drop (rows_at spacing) readings)

abbrev pub shade_lines : ℕ → List ℕ → List ℕ
shade_lines spacing s = lines_of spacing (numbers_of s) (readings_of (rows_at spacing) s)

-- the longest line: two numbers of at most 10 digits, four signed ones of at most 11 characters, five spaces and a line feed
abbrev pub line_room : ℕ
line_room = 70

-- "shade L a b u v"
abbrev pub header : List ℕ
header = 115 ∷ 104 ∷ 97 ∷ 100 ∷ 101 ∷ 32 ∷ 76 ∷ 32 ∷ 97 ∷ 32 ∷ 98 ∷ 32 ∷ 117 ∷ 32 ∷ 118 ∷ 10 ∷ []

-- "refused 11": the word, and the number of the cause
abbrev pub refusal : List ℕ
refusal = (114 ∷ 101 ∷ 102 ∷ 117 ∷ 115 ∷ 101 ∷ 100 ∷ 32 ∷ []) ++ decimal (cause_number NotABook) ++ line_end

-- "prints a header and one line per shade"; "Input that isn't a book prints only the line `refused 11`."
unfoldable pub listing_of : List ℕ → List ℕ
listing_of s = cond (is_book (rows_at (listed_spacing s)) s) (header ++ shade_lines (listed_spacing s) s) refusal
