-- A book is the book of its shades: each part of it is what the layout puts there, and the parts touch. Assumes nothing.
use mathlib.Core.Path.{◌≡◌, refl, sym, ap, ◌∙◌}
use mathlib.Core.Bool.{true, ◌&&◌}
use Prim.Native.Nat.{ℕ, zero, suc, ◌+◌, ◌*◌, ◌≤◌}
use native.Mathlib.Omega.{arith}
use mathlib.Core.List.{List, [], ◌∷◌, ◌++◌}
use lib.ListN.{length, take}
use lib.Dec.{ltb, eqb}
use borrow.Author.Tests.{eqb-true}
use Rattle.endian.specs.Bytes.{le16, le32, at16, at32, part, words, bytes_of, AllBelow}
use Rattle.endian.proofs.Parts.{little_endian-number_at, part_join, part_none, part_whole}
use Rattle.endian.proofs.Words.{length-words, bytes_of-words}
use Rattle.book.specs.Book.{magic, count_place, head_length, entry_length, body_length, bodies_at, starts_with, entry_of, contents_of, book_of}
use Rattle.book.specs.Book.{entry_ok, entries_ok, count_of, numbers_of, readings_in, readings_of, is_book}
use Rattle.book.proofs.Rules.{and_left, and_right, rules}

starts_front : (p s : List ℕ) → starts_with p s ≡ true → take (length p) s ≡ p
unfolding starts_with
starts_front [] s h = refl
starts_front (x ∷ p) [] h = cc
starts_front (x ∷ p) (y ∷ s) h =
    rw (eqb-true y x (and_left (eqb y x) (starts_with p s) h), starts_front p s (and_right (eqb y x) (starts_with p s) h))

module _ (rows : ℕ) (s : List ℕ) (b : AllBelow 256 s) where
  entry_part : (at before o : ℕ) → at + entry_length ≤ length s → entry_ok rows s at before o ≡ true → entry_of rows (at16 s at) o ≡ part s at entry_length
  unfolding entry_of entry_ok
  entry_part at before o h t =
      let b₂ = eqb (at16 s (at + 2)) (body_length rows) in
      let b₃ = eqb (at32 s (at + 4)) o in
      let e = and_left (ltb before (at16 s at) && b₂) b₃ t in
      let p = eqb-true (at16 s (at + 2)) (body_length rows) (and_right (ltb before (at16 s at)) b₂ e) in
      let q = eqb-true (at32 s (at + 4)) o (and_right (ltb before (at16 s at) && b₂) b₃ t) in
      let e₁ : le16 (body_length rows) ≡ part s (at + 2) 2 = ap le16 (sym p) ∙ little_endian-number_at s b 2 (at + 2) (omega arith) in
      let e₂ : le32 o ≡ part s (at + 2 + 2) 4 =
      ap le32 (sym q) ∙ little_endian-number_at s b 4 (at + 4) (omega arith) ∙ ap (λ (i : ℕ). part s i 4) (omega arith) in
      rw (little_endian-number_at s b 2 at (omega arith), e₁, e₂, part_join s (at + 2) 2 4) (part_join s at 2 6)

  contents_part : (n at before o : ℕ) → at + entry_length * n ≤ length s → entries_ok rows s at before o n ≡ true
      → contents_of rows o (words s at entry_length n) ≡ part s at (entry_length * n)
  unfolding contents_of words entries_ok
  contents_part zero at before o h t = sym (part_none s at)
  contents_part (suc n) at before o h t =
      let e = entry_ok rows s at before o in
      let rest = entries_ok rows s (at + entry_length) (at16 s at) (o + body_length rows) n in
      rw (
        entry_part at before o (omega arith) (and_left e rest t),
        contents_part n (at + entry_length) (at16 s at) (o + body_length rows) (omega arith) (and_right e rest t),
      )
      (part_join s at entry_length (entry_length * n) ∙ ap (part s at) (omega arith))

  joined : (m c k e : List ℕ) (x y : ℕ) → m ≡ part s 0 count_place → c ≡ part s count_place 2 → k ≡ part s head_length x → e ≡ part s (head_length + x) y
      → m ++ (c ++ (k ++ e)) ≡ part s 0 (count_place + (2 + (x + y)))
  joined m c k e x y p₁ p₂ p₃ p₄ = rw (p₁, p₂, p₃, p₄, part_join s head_length x y, part_join s count_place 2 (x + y)) (part_join s 0 count_place (2 + (x + y)))

  magic_part : starts_with magic s ≡ true → magic ≡ part s 0 count_place
  unfolding part
  magic_part t = sym (starts_front magic s t)

  pub book_of_shades : is_book rows s ≡ true → s ≡ book_of rows (numbers_of s) (readings_of rows s)
  unfolding book_of numbers_of readings_in
  book_of_shades t =
      let r = rules rows s t in
      let n : ℕ = count_of s in
      let numbers : List ℕ = words s head_length entry_length n in
      let readings : List ℕ = words s (bodies_at n) 2 (rows * n) in
      let l : length numbers ≡ n = length-words s head_length entry_length n in
      let k : contents_of rows (bodies_at n) numbers ≡ part s head_length (entry_length * n) =
      contents_part n head_length 0 (bodies_at n) (omega (arith, r.whole)) r.entries in
      let e : bytes_of readings ≡ part s (bodies_at n) (2 * (rows * n)) = bytes_of-words s b (rows * n) (bodies_at n) (omega (arith, r.whole)) in
      let z : length s ≡ count_place + (2 + (entry_length * n + 2 * (rows * n))) = omega (arith, r.whole) in
      sym (part_whole s) ∙ ap (part s 0) z
      ∙ sym (rw l (joined magic (le16 n) (contents_of rows (bodies_at n) numbers) (bytes_of readings) (entry_length * n) (2 * (rows * n))
      (magic_part r.begins) (little_endian-number_at s b 2 count_place r.long) k e))
