-- Document 02, "Nearest shade in the time there is": the shades of a book beside a swatch, by the colour that readings have. Assumes nothing.
use Rattle.std.specs.Prelude.{List, [], ◌∷◌, ℕ, take, drop}
use Rattle.signed.specs.Apart.{distance}
use Rattle.cie.specs.declared.Colour.{Colour}
use Rattle.cie.specs.Colour.{lightness_at, lab_difference}
use Rattle.conditions.specs.Weights.{dot}
use Rattle.book.specs.Book.{numbers_of, readings_of}
use Rattle.nearest.specs.Rule.{Shade, NearestOutcome, answered, nearest}
use Rattle.nearest.specs.Order.{key_of}

-- "difference of L (its size, without sign, from the swatch's L)"; "the closest shade of a book in CIELAB": E is CIELAB's
abbrev pub beside : Colour → ℕ → Colour → Shade
beside swatch number colour = record { difference = distance swatch.l colour.l; number = number; e = (lab_difference swatch colour).0 }

-- what some shades have, each by its number and its readings: their numbers, and the readings of all, one shade after the other
unfoldable pub each_shade : {A : Type 0} → (ℕ → List ℕ → A) → ℕ → List ℕ → List ℕ → List A
each_shade f rows [] readings = []
each_shade f rows (k ∷ ks) readings = f k (take rows readings) ∷ each_shade f rows ks (drop rows readings)

abbrev pub book_beside : (List ℕ → Colour) → ℕ → Colour → List ℕ → List Shade
book_beside colour rows swatch book = each_shade (λ k readings. beside swatch k (colour readings)) rows (numbers_of book) (readings_of rows book)

-- "A colourist holds an unknown swatch and wants the closest shade of a book": what the search answers, for a swatch's readings
unfoldable pub nearest_by : (List ℕ → Colour) → ℕ → ℕ → List ℕ → List ℕ → NearestOutcome
nearest_by colour rows budget swatch book = answered (nearest budget (book_beside colour rows (colour swatch) book))

-- L alone, by the weights of y and the white's Y
abbrev pub lightness_by : ℕ → List ℕ → List ℕ → ℕ
lightness_by yn y readings = lightness_at 1 (dot readings y) yn

-- the keys of these shades, by the L that readings have: so that each shade's L is worked out once
abbrev pub keys_by : (List ℕ → ℕ) → ℕ → ℕ → List ℕ → List ℕ
keys_by lightness rows l book = each_shade (λ k readings. key_of (distance l (lightness readings)) k) rows (numbers_of book) (readings_of rows book)
