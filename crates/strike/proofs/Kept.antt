-- The shades of a book, and those that remain without one, are shades that make a book. Assumes nothing.
use mathlib.Core.Path.{◌≡◌, sym, ap, ◌∙◌}
use mathlib.Core.Bool.{true, false}
use Prim.Native.Nat.{ℕ, ◌*◌}
use native.Mathlib.Omega.{arith}
use mathlib.Core.List.{List}
use Rattle.cie.specs.Scales.{any_above, reader_limit}
use Rattle.cie.proofs.Scales.{below, none_above}
use Rattle.endian.specs.Bytes.{AllBelow}
use Rattle.endian.proofs.Words.{length-words}
use Rattle.book.specs.Book.{head_length, entry_length, bodies_at, count_of, numbers_of, readings_in, readings_of, is_book}
use Rattle.book.proofs.Rules.{rules}
use Rattle.book.proofs.Rising.{numbers_rise, numbers_small}
use Rattle.book_writer.proofs.Shades.{Shades}
use Rattle.strike.specs.Striking.{remaining}
use Rattle.strike.proofs.Remaining.{above_remain, rising_remain, long_remain, few_remain}

pub book_shades : (rows : ℕ) (s : List ℕ) → AllBelow 256 s → is_book rows s ≡ true → Shades rows (numbers_of s) (readings_of rows s)
unfolding numbers_of readings_in
book_shades rows s b h =
    let r = rules rows s h in
    let n = length-words s head_length entry_length (count_of s) in
    record {
      long = length-words s (bodies_at (count_of s)) 2 (rows * count_of s) ∙ ap (λ (k : ℕ). rows * k) (sym n);
      few = omega (arith, r.few);
      small = numbers_small s b;
      rises = numbers_rise s rows h;
      fair = r.fair;
    }

-- without one of them, or without a number that none of them has
module _ (k rows : ℕ) (ns rs : List ℕ) (h : Shades rows ns rs) where
  small_left : AllBelow 65536 (remaining 1 k ns ns)
  small_left i =
      let none : any_above 65535 ns ≡ false = none_above 65535 ns (λ j l. omega (arith, h.small j)) in
      omega (arith, below 65535 (remaining 1 k ns ns) i (above_remain 65535 1 k ns ns none))

  pub shades_left : Shades rows (remaining 1 k ns ns) (remaining rows k ns rs)
  shades_left =
      record {
        long = long_remain rows k ns rs h.long;
        few = omega (arith, few_remain k ns, h.few);
        small = small_left;
        rises = rising_remain 0 k ns h.rises;
        fair = above_remain reader_limit rows k ns rs h.fair;
      }
