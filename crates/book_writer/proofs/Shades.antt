-- Shades that make a book, at any number of rows whose body length 2 bytes hold: their book keeps every rule and reads back as these shades.
-- Assumes nothing.
use mathlib.Core.Path.{◌≡◌, sym, ap, ◌∙◌}
use mathlib.Core.Bool.{true, false}
use Prim.Native.Nat.{ℕ, ◌*◌, ◌≤◌, ◌<◌}
use native.Mathlib.Omega.{arith}
use mathlib.Core.List.{List}
use lib.ListN.{length, get_or}
use Rattle.cie.specs.Scales.{any_above, reader_limit}
use Rattle.cie.proofs.Scales.{below}
use Rattle.endian.specs.Bytes.{AllBelow}
use Rattle.book.specs.Book.{body_length, most_shades, rising, book_of, numbers_of, readings_of, is_book, index_of}
use Rattle.book.proofs.Rising.{own_place}
use Rattle.book_writer.proofs.Back.{numbers_of_lem, readings_of_lem, is_book_holds}

pub record Shades (rows : ℕ) (ns rs : List ℕ) : Type 0 where
  pub long : length rs ≡ rows * length ns
  pub few : length ns ≤ most_shades
  pub small : AllBelow 65536 ns
  pub rises : rising 0 ns ≡ true
  pub fair : any_above reader_limit rs ≡ false

module _ (rows : ℕ) (fits : body_length rows < 65536) (ns rs : List ℕ) (h : Shades rows ns rs) where
  below_word : AllBelow 65536 rs
  below_word i = omega (arith, below reader_limit rs i h.fair)

  pub makes_book : is_book rows (book_of rows ns rs) ≡ true
  makes_book = is_book_holds rows ns rs h.few h.small fits below_word h.long h.rises h.fair

  pub numbers_back : numbers_of (book_of rows ns rs) ≡ ns
  numbers_back = numbers_of_lem rows ns rs h.few h.small fits

  pub readings_back : readings_of rows (book_of rows ns rs) ≡ rs
  readings_back = readings_of_lem rows ns rs h.few below_word h.long

  pub place_back : (i : ℕ) → i < length ns → i ≡ index_of (get_or ns i 0) (numbers_of (book_of rows ns rs))
  place_back i k = sym (ap (index_of (get_or ns i 0)) numbers_back ∙ own_place 0 ns i h.rises k)
