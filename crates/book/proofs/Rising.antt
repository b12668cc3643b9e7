-- A book's numbers have 16 bits and rise, so each is found at its own place. Assumes nothing.
use mathlib.Core.Path.{◌≡◌, refl, ap}
use mathlib.Core.Bool.{true, ◌&&◌}
use mathlib.Core.List.{List, [], ◌∷◌}
use Prim.Native.Nat.{ℕ, zero, suc, ◌+◌, ◌<◌}
use native.Mathlib.Omega.{arith}
use lib.Dec.{ltb, eqb}
use lib.ListN.{length, get_or}
use borrow.Author.Tests.{ltb-true, eq-eqb, ne_eqb}
use Rattle.endian.specs.Bytes.{number_at, at16, words, AllBelow}
use Rattle.endian.proofs.Words.{words_below}
use Rattle.book.specs.Book.{head_length, entry_length, body_length, bodies_at, rising, entry_ok, entries_ok, count_of, numbers_of, is_book, index_of}
use Rattle.book.proofs.Rules.{and_left, and_right, rules}

entries_rise : (rows : ℕ) (s : List ℕ) (n at before o : ℕ) → entries_ok rows s at before o n ≡ true → rising before (words s at entry_length n) ≡ true
unfolding entries_ok entry_ok rising words
entries_rise rows s zero at before o h = refl
entries_rise rows s (suc n) at before o h =
    let up = ltb before (at16 s at) in
    let len = eqb (at16 s (at + 2)) (body_length rows) in
    let off = eqb (number_at 4 s (at + 4)) o in
    let rest = entries_ok rows s (at + entry_length) (at16 s at) (o + body_length rows) n in
    rw (and_left up len (and_left (up && len) off (and_left (up && len && off) rest h)))
    (entries_rise rows s n (at + entry_length) (at16 s at) (o + body_length rows) (and_right (up && len && off) rest h))

module _ (s : List ℕ) where
  pub numbers_rise : (rows : ℕ) → is_book rows s ≡ true → rising 0 (numbers_of s) ≡ true
  unfolding numbers_of
  numbers_rise rows h = entries_rise rows s (count_of s) head_length 0 (bodies_at (count_of s)) (rules rows s h).entries

  pub numbers_small : AllBelow 256 s → AllBelow 65536 (numbers_of s)
  unfolding numbers_of
  numbers_small b = words_below s b (count_of s) head_length entry_length

-- numbers that rise are each found at their own place
pub rising_above : (before : ℕ) (xs : List ℕ) (i : ℕ) → rising before xs ≡ true → i < length xs → before < get_or xs i 0
unfolding rising
rising_above before [] i h k = absurd (omega arith)
rising_above before (x ∷ xs) zero h k = ltb-true before x (and_left (ltb before x) (rising x xs) h)
rising_above before (x ∷ xs) (suc i) h k =
    let rest = and_right (ltb before x) (rising x xs) h in
    omega (arith, ltb-true before x (and_left (ltb before x) (rising x xs) h), rising_above x xs i rest (omega arith))

pub own_place : (before : ℕ) (xs : List ℕ) (i : ℕ) → rising before xs ≡ true → i < length xs → index_of (get_or xs i 0) xs ≡ i
unfolding rising index_of
own_place before [] i h k = absurd (omega arith)
own_place before (x ∷ xs) zero h k = rw (eq-eqb x x refl)
own_place before (x ∷ xs) (suc i) h k =
    let rest = and_right (ltb before x) (rising x xs) h in
    let above : x < get_or xs i 0 = rising_above x xs i rest (omega arith) in
    rw (ne_eqb x (get_or xs i 0) (λ e. omega arith)) (ap suc (own_place x xs i rest (omega arith)))
