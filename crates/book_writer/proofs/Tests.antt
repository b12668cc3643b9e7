-- The tests of the shades to be written: what is left, tested from here, decides as the whole does. Assumes nothing.
use mathlib.Core.Path.{◌≡◌, sym, ap, ◌∙◌}
use mathlib.Core.Bool.{true, false, ◌&&◌}
use Prim.Native.Nat.{ℕ, ◌+◌, ◌*◌, ◌%◌, ◌≤◌, ◌<◌}
use native.Mathlib.Nat.{mul-mod_right}
use native.Mathlib.Numerals.{add-one}
use mathlib.Core.List.{List}
use lib.ListN.{length, get_or, drop, drop_of_length-le}
use lib.Seq.{drop-cons}
use lib.Dec.{ltb, eqb}
use borrow.Author.Tests.{lt-ltb, le-ltb, ne_eqb}
use Rattle.book.specs.Book.{rising}

-- k readings are not so many for each of n shades where the rows do not divide them
pub not_filled : (rows n k : ℕ) → (k % rows ≡ 0 → ⊥) → false ≡ eqb k (rows * n)
not_filled rows n k h = sym (ne_eqb k (rows * n) (λ e. h (ap (λ (x : ℕ). x % rows) e ∙ mul-mod_right rows n)))

-- numbers that rise
module _ (l : List ℕ) (i before : ℕ) (h : i < length l) where
  rising_first : rising before (drop i l) ≡ (ltb before (get_or l i 0) && rising (get_or l i 0) (drop (i + 1) l))
  unfolding rising
  rising_first = rw (add-one, drop-cons l i 0 h)

  pub rising_on : before < get_or l i 0 → rising (get_or l i 0) (drop (i + 1) l) ≡ rising before (drop i l)
  rising_on k = rw (rising_first, lt-ltb before (get_or l i 0) k)

  pub rising_off : get_or l i 0 ≤ before → false ≡ rising before (drop i l)
  rising_off k = rw (rising_first, le-ltb before (get_or l i 0) k)

pub rising_end : (l : List ℕ) (i before : ℕ) → length l ≤ i → true ≡ rising before (drop i l)
unfolding rising
rising_end l i before h = rw (drop_of_length-le l h)
