-- A book's shades under conditions. Assumes nothing.
use Rattle.std.specs.Prelude.{ℕ, List}
use Rattle.cie.specs.declared.Colour.{Colour}
use Rattle.conditions.specs.declared.Conditions.{Conditions}
use Rattle.conditions.specs.Measure.{colour_under}
use Rattle.book.specs.Book.{readings_of, spectrum_of}

-- the colour of a book's i-th shade, from 0, under conditions
abbrev pub shade_under : Conditions → List ℕ → ℕ → Colour
shade_under c s i = colour_under c (spectrum_of c.rows (readings_of c.rows s) i)
