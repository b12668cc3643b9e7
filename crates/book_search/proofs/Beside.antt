-- The shades of a book, place by place: each has what its own number and readings give, so the keys go by L alone, and the numbers rise as the
-- book's do. Assumes nothing.
use mathlib.Core.Path.{◌≡◌, refl, sym, ap, ◌∙◌}
use mathlib.Core.Bool.{true}
use mathlib.Core.List.{List, [], ◌∷◌, map}
use Prim.Native.Nat.{ℕ, zero, suc, ◌+◌, ◌*◌, ◌<◌}
use native.Mathlib.Nat.{mul-zero}
use native.Mathlib.Omega.{arith}
use lib.Dec.{ltb}
use lib.ListN.{length, get_or, take, drop}
use lib.Seq.{drop-drop}
use borrow.Author.Tests.{ltb-true}
use Rattle.endian.specs.Bytes.{AllBelow}
use Rattle.endian.proofs.Parts.{tail_below}
use Rattle.cie.specs.declared.Colour.{Colour}
use Rattle.cie.specs.Colour.{colour_of}
use Rattle.conditions.specs.declared.Conditions.{Conditions}
use Rattle.conditions.specs.Measure.{colour_under}
use Rattle.book.specs.Book.{rising, numbers_of, readings_of, spectrum_of}
use Rattle.book.proofs.Rules.{and_left, and_right}
use Rattle.nearest.specs.Order.{shade_key, keys_of}
use Rattle.nearest.proofs.Remaining.{Rising, none, more}
use Rattle.book_search.specs.Shades.{beside, each_shade, book_beside, lightness_by, keys_by}

-- the readings of a later shade are those of the shade before it, of what is left
spectrum_later : (rows : ℕ) (rs : List ℕ) (i : ℕ) → spectrum_of rows (drop rows rs) i ≡ spectrum_of rows rs (suc i)
unfolding spectrum_of
spectrum_later rows rs i =
    let e : rows + rows * i ≡ rows * suc i = omega arith in
    ap (take rows) (drop-drop (rows * i) rows rs ∙ ap (λ (n : ℕ). drop n rs) e)

spectrum_first : (rows : ℕ) (rs : List ℕ) → take rows rs ≡ spectrum_of rows rs 0
unfolding spectrum_of
spectrum_first rows rs = ap (λ (n : ℕ). take rows (drop n rs)) (sym (mul-zero rows))

-- each shade has what its number and its readings give
module _ {A : Type 0} (f : ℕ → List ℕ → A) (rows : ℕ) where
  pub each_length : (ks rs : List ℕ) → length (each_shade f rows ks rs) ≡ length ks
  unfolding each_shade
  each_length [] rs = refl
  each_length (k ∷ ks) rs = ap suc (each_length ks (drop rows rs))

  pub each_at : (d : A) (ks rs : List ℕ) (i : ℕ) → i < length ks → get_or (each_shade f rows ks rs) i d ≡ f (get_or ks i 0) (spectrum_of rows rs i)
  unfolding each_shade
  each_at d [] rs i h = absurd (omega arith)
  each_at d (k ∷ ks) rs zero h = ap (f k) (spectrum_first rows rs)
  each_at d (k ∷ ks) rs (suc i) h = each_at d ks (drop rows rs) i (omega arith) ∙ ap (f (get_or ks i 0)) (spectrum_later rows rs i)

  each_mapped : {B : Type 0} (g : A → B) (ks rs : List ℕ) → map g (each_shade f rows ks rs) ≡ each_shade (λ k r. g (f k r)) rows ks rs
  unfolding each_shade
  each_mapped g [] rs = refl
  each_mapped {B} g (k ∷ ks) rs = ap (λ (l : List B). g (f k (take rows rs)) ∷ l) (each_mapped g ks (drop rows rs))

-- the numbers of the shades beside a swatch rise as the book's do
pub beside_rises : (colour : List ℕ → Colour) (rows : ℕ) (swatch : Colour) (before : ℕ) (ks rs : List ℕ) → AllBelow 65536 ks → rising before ks ≡ true →
    Rising before (each_shade (λ k r. beside swatch k (colour r)) rows ks rs)
unfolding each_shade rising
beside_rises colour rows swatch before [] rs b h = none
beside_rises colour rows swatch before (k ∷ ks) rs b h =
    more (ltb-true before k (and_left (ltb before k) (rising k ks) h)) (b 0)
    (beside_rises colour rows swatch k ks (drop rows rs) (tail_below ks b) (and_right (ltb before k) (rising k ks) h))

-- under conditions L goes by the weights of y alone
pub keys_under : (c : Conditions) (swatch : Colour) (book : List ℕ) →
    keys_by (lightness_by c.white.sums.y c.y) c.rows swatch.l book ≡ keys_of (book_beside (colour_under c) c.rows swatch book)
unfolding colour_of
keys_under c swatch book =
    sym (each_mapped (λ k r. beside swatch k (colour_under c r)) c.rows shade_key (numbers_of book) (readings_of c.rows book))
