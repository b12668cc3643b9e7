-- The book of some shades reads back as these shades: behind a front, all is read at a place that is later by the front's length. Assumes nothing.
use mathlib.Core.Path.{◌≡◌, refl, sym, ap, ◌∙◌}
use mathlib.Core.Bool.{true, false, not, and-true}
use Prim.Native.Nat.{ℕ, zero, suc, ◌+◌, ◌*◌, ◌^◌, ◌≤◌, ◌<◌}
use native.Mathlib.Omega.{arith}
use native.Mathlib.Nat.{add_assoc, add-zero, mul-le-mul}
use mathlib.Core.List.{List, [], ◌∷◌, ◌++◌, append_assoc, append-nil}
use lib.ListN.{length, length-append}
use lib.Dec.{ltb}
use borrow.Author.Tests.{eq-eqb}
use Rattle.cie.specs.Scales.{any_above, reader_limit}
use Rattle.endian.specs.Bytes.{little_endian, le16, le32, at16, at32, words, bytes_of, AllBelow}
use Rattle.endian.proofs.Parts.{tail_below, number_at-behind, number_at-front}
use Rattle.endian.proofs.Words.{words_behind, words-bytes_of}
use Rattle.book.specs.Book.{magic, head_length, entry_length, body_length, most_shades, bodies_at, total, rising, entry_of, contents_of, book_of}
use Rattle.book.specs.Book.{starts_with, entry_ok, entries_ok, count_of, numbers_of, readings_in, readings_of, is_book}
use Rattle.book_writer.proofs.Stored.{length-book_of, length-contents_of}
use Rattle.book.proofs.Rules.{last_rule}

-- entries behind a front
module _ (rows : ℕ) (p s : List ℕ) where
  entry_behind : (at before o : ℕ) → entry_ok rows (p ++ s) (length p + at) before o ≡ entry_ok rows s at before o
  unfolding entry_ok
  entry_behind at before o =
      rw (
        number_at-behind 2 p s at,
        add_assoc (length p) at 2,
        number_at-behind 2 p s (at + 2),
        add_assoc (length p) at 4,
        number_at-behind 4 p s (at + 4),
      )

  entries_behind : (n at before o : ℕ) → entries_ok rows (p ++ s) (length p + at) before o n ≡ entries_ok rows s at before o n
  unfolding entries_ok
  entries_behind zero at before o = refl
  entries_behind (suc n) at before o =
      rw (
        entry_behind at before o,
        number_at-behind 2 p s at,
        add_assoc (length p) at entry_length,
        entries_behind n (at + entry_length) (at16 s at) (o + body_length rows),
      )

-- one entry reads back
module _ (rows k o : ℕ) (r : List ℕ) (hk : k < 65536) where
  entry_split : entry_of rows k o ++ r ≡ le16 k ++ (le16 (body_length rows) ++ (le32 o ++ r))
  unfolding entry_of
  entry_split =
      append_assoc (le16 k) (le16 (body_length rows) ++ le32 o) r
      ∙ ap (λ (l : List ℕ). le16 k ++ l) (append_assoc (le16 (body_length rows)) (le32 o) r)

  entry_number : at16 (entry_of rows k o ++ r) 0 ≡ k
  entry_number = rw entry_split (number_at-front 2 k (le16 (body_length rows) ++ (le32 o ++ r)) hk)

  entry_ok_lem : (before : ℕ) → body_length rows < 65536 → o < 2 ^ 32 → entry_ok rows (entry_of rows k o ++ r) 0 before o ≡ ltb before k
  unfolding entry_ok little_endian
  entry_ok_lem before hb ho =
      let rest : List ℕ = le16 (body_length rows) ++ (le32 o ++ r) in
      let l : at16 (entry_of rows k o ++ r) 2 ≡ body_length rows =
      ap (λ (s : List ℕ). at16 s 2) entry_split ∙ number_at-behind 2 (le16 k) rest 0 ∙ number_at-front 2 (body_length rows) (le32 o ++ r) hb in
      let q : at32 (entry_of rows k o ++ r) 4 ≡ o =
      ap (λ (s : List ℕ). at32 s 4) entry_split ∙ number_at-behind 4 (le16 k) rest 2
      ∙ number_at-behind 4 (le16 (body_length rows)) (le32 o ++ r) 0 ∙ number_at-front 4 o r ho in
      rw (entry_number, l, q, eq-eqb (body_length rows) (body_length rows) refl, eq-eqb o o refl, and-true (ltb before k), and-true (ltb before k))

  words_next : (n : ℕ) → words (entry_of rows k o ++ r) entry_length entry_length n ≡ words r 0 entry_length n
  unfolding entry_of little_endian
  words_next n = words_behind (entry_of rows k o) r n 0 entry_length

  entries_next : (n before o' : ℕ) → entries_ok rows (entry_of rows k o ++ r) entry_length before o' n ≡ entries_ok rows r 0 before o' n
  unfolding entry_of little_endian
  entries_next n before o' = entries_behind rows (entry_of rows k o) r n 0 before o'

-- the entries read back
module _ (rows : ℕ) (fits : body_length rows < 65536) (q : List ℕ) where
  pub numbers_read : (ns : List ℕ) (o : ℕ) → AllBelow 65536 ns → words (contents_of rows o ns ++ q) 0 entry_length (length ns) ≡ ns
  unfolding contents_of words
  numbers_read [] o b = refl
  numbers_read (k ∷ ns) o b =
      let r : List ℕ = contents_of rows (o + body_length rows) ns ++ q in
      ap (λ (s : List ℕ). words s 0 entry_length (suc (length ns))) (append_assoc (entry_of rows k o) (contents_of rows (o + body_length rows) ns) q)
      ∙ rw (
        entry_number rows k o r (b 0),
        words_next rows k o r (b 0) (length ns),
        numbers_read ns (o + body_length rows) (tail_below ns b),
      )

  entries_read : (ns : List ℕ) (before o : ℕ) → AllBelow 65536 ns → o + body_length rows * length ns < 2 ^ 32
      → entries_ok rows (contents_of rows o ns ++ q) 0 before o (length ns) ≡ rising before ns
  unfolding contents_of entries_ok rising
  entries_read [] before o b h = refl
  entries_read (k ∷ ns) before o b h =
      let r : List ℕ = contents_of rows (o + body_length rows) ns ++ q in
      ap (λ (s : List ℕ). entries_ok rows s 0 before o (suc (length ns)))
      (append_assoc (entry_of rows k o) (contents_of rows (o + body_length rows) ns) q)
      ∙ rw (
        entry_ok_lem rows k o r (b 0) before fits (omega arith),
        entry_number rows k o r (b 0),
        entries_next rows k o r (b 0) (length ns) k (o + body_length rows),
        entries_read ns k (o + body_length rows) (tail_below ns b) (omega arith),
      )

words_after : (f c xs : List ℕ) (at : ℕ) → at ≡ length (f ++ c) → AllBelow 65536 xs → words (f ++ (c ++ bytes_of xs)) at 2 (length xs) ≡ xs
words_after f c xs at e b =
    let joined : f ++ (c ++ bytes_of xs) ≡ f ++ c ++ (bytes_of xs ++ []) =
    sym (append_assoc f c (bytes_of xs)) ∙ ap (λ (l : List ℕ). f ++ c ++ l) (sym (append-nil (bytes_of xs))) in
    ap (λ (i : ℕ). words (f ++ (c ++ bytes_of xs)) i 2 (length xs)) (e ∙ sym (add-zero (length (f ++ c))))
    ∙ ap (λ (l : List ℕ). words l (length (f ++ c) + 0) 2 (length xs)) joined
    ∙ words_behind (f ++ c) (bytes_of xs ++ []) (length xs) 0 2 ∙ words-bytes_of xs [] b

-- the book reads back
module _ (rows : ℕ) (ns rs : List ℕ) (few : length ns ≤ most_shades) where
  front : List ℕ
  front = magic ++ le16 (length ns)

  contents : List ℕ
  contents = contents_of rows (bodies_at (length ns)) ns

  pub count_back : count_of (book_of rows ns rs) ≡ length ns
  unfolding book_of
  count_back =
      let body : List ℕ = contents_of rows (bodies_at (length ns)) ns ++ bytes_of rs in
      number_at-behind 2 magic (le16 (length ns) ++ body) 0 ∙ number_at-front 2 (length ns) body (omega arith)

  pub numbers_of_lem : AllBelow 65536 ns → body_length rows < 65536 → numbers_of (book_of rows ns rs) ≡ ns
  unfolding numbers_of book_of little_endian front contents
  numbers_of_lem b fits =
      ap (words (book_of rows ns rs) head_length entry_length) count_back
      ∙ words_behind front (contents ++ bytes_of rs) (length ns) 0 entry_length ∙ numbers_read rows fits (bytes_of rs) ns (bodies_at (length ns)) b

  pub readings_of_lem : AllBelow 65536 rs → length rs ≡ rows * length ns → readings_of rows (book_of rows ns rs) ≡ rs
  unfolding readings_in book_of little_endian front contents
  readings_of_lem b long =
      let at : bodies_at (length ns) ≡ length (front ++ contents) =
      omega (arith, length-append front contents, length-contents_of rows (bodies_at (length ns)) ns) in
      ap (readings_in rows (book_of rows ns rs)) count_back ∙ ap (words (book_of rows ns rs) (bodies_at (length ns)) 2) (sym long)
      ∙ words_after front contents rs (bodies_at (length ns)) at b

  entries_of : AllBelow 65536 ns → body_length rows < 65536
      → entries_ok rows (book_of rows ns rs) head_length 0 (bodies_at (length ns)) (length ns) ≡ rising 0 ns
  unfolding book_of little_endian front contents
  entries_of b fits =
      let far : body_length rows * length ns ≤ 65536 * most_shades = mul-le-mul {n₂ = 65536} {m₂ = most_shades} (omega arith) few in
      entries_behind rows front (contents ++ bytes_of rs) (length ns) 0 0 (bodies_at (length ns))
      ∙ entries_read rows fits (bytes_of rs) ns 0 (bodies_at (length ns)) b (omega arith)

  begins : starts_with magic (book_of rows ns rs) ≡ true
  unfolding starts_with book_of
  begins = refl

  pub is_book_holds : AllBelow 65536 ns → body_length rows < 65536 → AllBelow 65536 rs → length rs ≡ rows * length ns → rising 0 ns ≡ true
      → any_above reader_limit rs ≡ false → is_book rows (book_of rows ns rs) ≡ true
  is_book_holds b fits br long rises fair =
      let whole : length (book_of rows ns rs) ≡ total rows (length ns) = omega (arith, length-book_of rows ns rs, ap (λ (x : ℕ). 2 * x) long) in
      let same : readings_in rows (book_of rows ns rs) (length ns) ≡ rs =
      ap (readings_in rows (book_of rows ns rs)) (sym count_back) ∙ readings_of_lem br long in
      sym (last_rule rows (book_of rows ns rs) (sym count_back) (omega arith) begins few whole (entries_of b fits ∙ rises))
      ∙ ap (λ (l : List ℕ). not (any_above reader_limit l)) same ∙ ap not fair
