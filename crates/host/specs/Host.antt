-- Document 01, "Listing and host": what the C call answers and leaves in its buffer, refusals included. Assumes nothing.
use Rattle.std.specs.Prelude.{ℕ, not, List, [], ◌∷◌, ◌++◌, length, drop, pos, ltb, eqb}
use Rattle.causes.specs.declared.Cause.TheVariants.{ShortTable, OverBright, ShortBuffer, NoSuchLight}
use Rattle.causes.specs.Causes.{cause_number, Numbered}
use Rattle.causes.specs.Checks.{Check, check, first_of, unless, numbered}
use Rattle.cie.specs.declared.Colour.{Colour}
use Rattle.cie.specs.Spacing.{rows_at, spectrum_bytes, spacing_told}
use Rattle.cie.specs.Scales.{reader_limit, any_above}
use Rattle.cie.specs.Lights.{unknown_light, light_tables}
use Rattle.cie.specs.Colour.{colour_at}
use Rattle.colour.specs.declared.Coordinates.{Coordinates}
use Rattle.colour.specs.Coordinates.{coordinates_in}
use Rattle.endian.specs.Bytes.{le32, words, twos}

-- "a spectrum as 162 bytes (81 readings of 2 bytes, little-endian)"; document 02: "the host call takes 162 or 82 bytes, the length telling the
-- spacing"
abbrev pub host_spacing : List ℕ → ℕ
host_spacing bytes = spacing_told (length bytes)

abbrev pub host_rows : List ℕ → ℕ
host_rows bytes = rows_at (host_spacing bytes)

abbrev pub host_readings : List ℕ → List ℕ
host_readings bytes = words bytes 0 2 (host_rows bytes)

-- "L, a, b, u, v as five signed 4-byte numbers, little-endian": 20 bytes
abbrev pub answer_length : ℕ
answer_length = 20

unfoldable pub coordinate_bytes : Coordinates → List ℕ
coordinate_bytes c = le32 (twos (pos c.l)) ++ le32 (twos c.a) ++ le32 (twos c.b) ++ le32 (twos c.u) ++ le32 (twos c.v)

abbrev pub answer_bytes : Colour → List ℕ
answer_bytes c = coordinate_bytes (coordinates_in c)

-- "or a cause (16, 1, 2, 15)": those of the light and the spectrum, and then that of the buffer
abbrev pub colour_checks : ℕ → List ℕ → List Check
colour_checks light bytes =
    check (unknown_light light) NoSuchLight
    ∷ check (not (eqb (length bytes) (spectrum_bytes (host_rows bytes)))) ShortTable
    ∷ check (any_above reader_limit (host_readings bytes)) OverBright
    ∷ []

abbrev pub host_checks : ℕ → List ℕ → ℕ → List Check
host_checks light bytes room = colour_checks light bytes ++ (check (ltb room answer_length) ShortBuffer ∷ [])

-- the colour of a spectrum under a light, at the spacing that its length tells
unfoldable pub host_colour : ℕ → List ℕ → Colour
host_colour light bytes = colour_at (light_tables light (host_spacing bytes)) (host_readings bytes)

-- what is found before the buffer is looked at, in the paper's numbers: the coordinates, or the number of the cause, of readings under a light
-- at a spacing
unfoldable pub coloured_by : ℕ → ℕ → List ℕ → Numbered Coordinates
coloured_by light spacing readings =
    numbered (first_of (check (any_above reader_limit readings) OverBright ∷ [])) (coordinates_in (colour_at (light_tables light spacing) readings))

unfoldable pub coloured_of : ℕ → List ℕ → Numbered Coordinates
coloured_of light bytes = numbered (first_of (colour_checks light bytes)) (coordinates_in (host_colour light bytes))

-- "gets 0 and L, a, b, u, v .., or a cause"
unfoldable pub answered : ℕ → List ℕ → ℕ → ℕ
answered light bytes room = unless (first_of (host_checks light bytes room)) cause_number 0

-- "Only the first 20 bytes of its buffer change."
unfoldable pub buffer_after : ℕ → List ℕ → List ℕ → List ℕ
buffer_after light bytes buffer =
    unless (first_of (host_checks light bytes (length buffer))) (λ _. buffer)
    (answer_bytes (host_colour light bytes) ++ drop answer_length buffer)
