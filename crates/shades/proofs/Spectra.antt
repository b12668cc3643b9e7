-- A book's shades under sound conditions: their readings are spectra, so each has a colour that is sized, and its L alone is that colour's.
-- Assumes nothing.
use mathlib.Core.Path.{◌≡◌, refl, sym, ap, subst, ◌∙◌}
use mathlib.Core.Bool.{true}
use mathlib.Core.List.{List}
use Prim.Native.Nat.{ℕ, ◌*◌, ◌≤◌, ◌<◌}
use native.Mathlib.Omega.{arith}
use lib.ListN.{drop, length-take}
use Rattle.cie.specs.Spacing.{most_rows}
use Rattle.cie.specs.Scales.{reader_limit}
use Rattle.cie.specs.Sizes.{Sized}
use Rattle.cie.specs.Colour.{lightness_at, colour_of}
use Rattle.cie.proofs.Scales.{below_parts}
use Rattle.conditions.specs.declared.Conditions.{Conditions}
use Rattle.cie.proofs.Whites.{white_y}
use Rattle.conditions.specs.Weights.{dot, white_readings, Spectrum, Weights}
use Rattle.conditions.specs.Conditions.{Sound}
use Rattle.conditions.proofs.Measuring.{sized_under}
use Rattle.book.specs.Book.{count_of, readings_of, is_book, spectrum_of}
use Rattle.book.proofs.Rules.{rules}
use Rattle.shades.specs.Shades.{shade_under}

-- the readings of a book's shade are a spectrum
pub spectrum_fair : (rows : ℕ) (s : List ℕ) (i : ℕ) → rows ≤ most_rows → is_book rows s ≡ true → Spectrum (spectrum_of rows (readings_of rows s) i)
unfolding spectrum_of
spectrum_fair rows s i h b =
    let rs = readings_of rows s in
    let rest = (below_parts reader_limit (rows * i) rs (rules rows s b).fair).1 in
    record { few = omega (arith, length-take rows (drop (rows * i) rs)); scale = (below_parts reader_limit rows (drop (rows * i) rs) rest).0 }

-- and so are those that are read into as many places
pub read_fair : (s : List ℕ) (i : ℕ) {rows n : ℕ} {readings : List ℕ} → rows ≤ most_rows → n ≡ rows → is_book rows s ≡ true →
    readings ≡ spectrum_of n (readings_of n s) i → Spectrum readings
read_fair s i {rows} h e b r =
    subst Spectrum (sym (r ∙ ap (λ (k : ℕ). spectrum_of k (readings_of k s) i) e)) (spectrum_fair rows s i h b)

-- L of a shade's colour is that of its sum by the weights of y
pub shade_lightness : (c : Conditions) (s : List ℕ) (i : ℕ) →
    (shade_under c s i).l ≡ lightness_at 1 (dot (spectrum_of c.rows (readings_of c.rows s) i) c.y) c.white.sums.y
unfolding colour_of
shade_lightness c s i = refl

module _ {c : Conditions} (sound : Sound c) (s : List ℕ) (i : ℕ) (book : is_book c.rows s ≡ true) where
  pub shade_sized : Sized (shade_under c s i)
  shade_sized = sized_under sound (spectrum_fair c.rows s i sound.few book)

  -- what is asked of a shade that the book has, where as many places are lent as there are rows
  module _ (among : i < count_of s) {places : ℕ} (lent : places ≡ c.rows) where
    read : is_book places s ≡ true
    read = ap (λ (n : ℕ). is_book n s) lent ∙ book

    pub lightness_ready : (is_book places s ≡ true) × (i < count_of s) × (places ≤ most_rows) × Weights c.y × (dot white_readings c.y ≤ c.white.sums.y)
        × (0 < c.white.sums.y)
    lightness_ready = (read, among, omega (arith, sound.few), sound.weights_y, sound.least_y, white_y sound.white)
