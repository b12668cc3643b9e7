-- Document 01: "light 1 is A, light 2 is D65", each with the 1931 observer, and document 02: every second row of them at 10 nm. Assumes nothing.
use Rattle.std.specs.Prelude.{Bool, cond, not, ◌||◌, List, [], ◌∷◌, ℕ, eqb}
use Rattle.cie.specs.Spacing.{coarse_spacing}
use Rattle.cie.specs.Tables.{observer_x, observer_y, observer_z, illuminant_a, illuminant_d65}
use Rattle.cie.specs.Sums.{Tables, tables_of}

abbrev pub light_a : ℕ
light_a = 1

abbrev pub light_d65 : ℕ
light_d65 = 2

-- 16, no such light: "light not 1 or 2"
abbrev pub unknown_light : ℕ → Bool
unknown_light light = not (eqb light light_a || eqb light light_d65)

-- "every second row", from the first on, which is 380 nm
unfoldable pub every_second : List ℕ → List ℕ
every_second [] = []
every_second (x ∷ []) = x ∷ []
every_second (x ∷ y ∷ xs) = x ∷ every_second xs

-- "Built-in lights use every second row at 10 nm.": the rows of a built-in table at a spacing
unfoldable pub table_at : ℕ → List ℕ → List ℕ
table_at spacing table = cond (eqb spacing coarse_spacing) (every_second table) table

-- an illuminant with the 1931 observer
abbrev pub observed : ℕ → List ℕ → Tables
observed spacing illuminant = tables_of spacing illuminant (table_at spacing observer_x) (table_at spacing observer_y) (table_at spacing observer_z)

-- the tables of a light that is 1 or 2
abbrev pub light_tables : ℕ → ℕ → Tables
light_tables light spacing = observed spacing (table_at spacing (cond (eqb light light_a) illuminant_a illuminant_d65))
