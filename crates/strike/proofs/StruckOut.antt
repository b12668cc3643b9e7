-- The shade at a place of a book struck: the moves and stores leave the book of the remaining shades and zeros. Assumes nothing.
use mathlib.Core.Path.{◌≡◌, refl, sym, ap, ◌∙◌}
use mathlib.Core.Bool.{true}
use Prim.Native.Nat.{ℕ, suc, ◌+◌, ◌-◌, ◌*◌, ◌≤◌, ◌<◌}
use native.Mathlib.Omega.{arith}
use native.Mathlib.Nat.{one-mul}
use native.Mathlib.Numerals.{add-one}
use mathlib.Core.List.{List, ◌∷◌, ◌++◌}
use lib.ListN.{length, get_or, take, drop, replicate, length-append, length-drop, take-append-drop}
use lib.Seq.{sets, split_at, drop-drop, length-take-le, get_or-drop}
use Rattle.endian.specs.Bytes.{le16, words, AllBelow}
use Rattle.endian.proofs.Parts.{below_take}
use Rattle.book.specs.Book.{count_place, head_length, entry_length, body_length, bodies_at, total, contents_of, book_of, count_of, numbers_of, readings_of, is_book, is_in, index_of}
use Rattle.book.proofs.Tests.{in_place, at_place}
use Rattle.book.proofs.Rules.{rules, length-numbers_of}
use Rattle.book.proofs.Sizes.{readings_within}
use Rattle.book.proofs.Whole.{book_of_shades}
use Rattle.book_writer.proofs.Stored.{length-book_of}
use Rattle.book_writer.proofs.Shades.{Shades}
use Rattle.strike.specs.Striking.{remaining, book_without, closed_up}
use Rattle.strike.proofs.Remaining.{remain_around}
use Rattle.strike.proofs.Without.{closing}
use Rattle.strike.proofs.Kept.{book_shades}

-- the book of the shades around a place is the book without the number that stands there
module _ (rows : ℕ) (s : List ℕ) (h : Shades rows (numbers_of s) (readings_of rows s)) (i : ℕ) (inside : i < length (numbers_of s)) where
  around : book_without rows (get_or (numbers_of s) i 0) s
      ≡ book_of rows (take i (numbers_of s) ++ drop (suc i) (numbers_of s)) (take (rows * i) (readings_of rows s) ++ drop (rows * i + rows) (readings_of rows s))
  unfolding book_without
  around =
      let ns : List ℕ = numbers_of s in
      let numbers : remaining 1 (get_or ns i 0) ns ns ≡ take i ns ++ drop (suc i) ns =
      remain_around 1 0 i ns ns (sym (one-mul (length ns))) h.rises inside ∙ rw (one-mul i, add-one i) in
      rw (numbers, remain_around rows 0 i ns (readings_of rows s) h.long h.rises inside)

-- the shade at the place i of a book s of n shades
module _ (rows : ℕ) (fits : body_length rows < 65536) (s : List ℕ) (bytes : AllBelow 256 s) (book : is_book rows s ≡ true)
    (n i : ℕ) (count : n ≡ count_of s) (inside : i < n) where
  sound : Shades rows (numbers_of s) (readings_of rows s)
  sound = book_shades rows s bytes book

  all : length (numbers_of s) ≡ n
  all = length-numbers_of s ∙ sym count

  within : rows * i + rows ≤ length (readings_of rows s)
  within = omega (arith, readings_within rows i n inside, sound.long, ap (λ (k : ℕ). rows * k) all)

  -- the book that is left is shorter by a body and an entry
  pub shorter : length s ≡ length (book_without rows (get_or (numbers_of s) i 0) s) + (body_length rows + entry_length)
  shorter =
      let ns : List ℕ = numbers_of s in
      let rs : List ℕ = readings_of rows s in
      let xs : List ℕ = take i ns ++ drop (suc i) ns in
      let qs : List ℕ = take (rows * i) rs ++ drop (rows * i + rows) rs in
      let numbers : length xs + 1 ≡ n =
      omega (arith, length-append (take i ns) (drop (suc i) ns), length-take-le i ns (omega (arith, all)), length-drop (suc i) ns, all) in
      let readings : length qs + rows ≡ length rs =
      omega (
        arith,
        length-append (take (rows * i) rs) (drop (rows * i + rows) rs),
        length-take-le (rows * i) rs (omega (arith, within)),
        length-drop (rows * i + rows) rs,
        within,
      ) in
      omega (
        arith,
        ap length (book_of_shades rows s bytes book),
        length-book_of rows ns rs,
        all,
        ap length (around rows s sound i (omega (arith, all))),
        length-book_of rows xs qs,
      )

  pub total_left : total rows (n - 1) ≡ length (book_without rows (get_or (numbers_of s) i 0) s)
  total_left =
      let more : n ≡ n - 1 + 1 = omega arith in
      omega (arith, shorter, (rules rows s book).whole, ap (total rows) (sym count ∙ more))

  -- what the moves and stores leave
  pub struck_out : {d₁ d₂ d₃ d₄ : List ℕ}
      → d₁ ≡ take (bodies_at n + body_length rows * i) s ++ drop (bodies_at n + body_length rows * i + body_length rows) s ++ replicate (body_length rows) 0
      → d₂ ≡ take (bodies_at i) d₁ ++ drop (bodies_at i + entry_length) d₁ ++ replicate entry_length 0
      → d₃ ≡ sets d₂ count_place (le16 (n - 1))
      → d₄ ≡ sets d₃ head_length (contents_of rows (bodies_at (n - 1)) (words d₃ head_length entry_length (n - 1)))
      → d₄ ≡ closed_up (book_without rows (get_or (numbers_of s) i 0) s) (length s)
  struck_out e₁ e₂ e₃ e₄ =
      let ns : List ℕ = numbers_of s in
      let rs : List ℕ = readings_of rows s in
      let rest : drop rows (drop (rows * i) rs) ≡ drop (rows * i + rows) rs = drop-drop rows (rows * i) rs in
      let thirds : rs ≡ take (rows * i) rs ++ (take rows (drop (rows * i) rs) ++ drop (rows * i + rows) rs) =
      sym (ap (λ (l : List ℕ). take (rows * i) rs ++ (take rows (drop (rows * i) rs) ++ l)) (sym rest)
      ∙ ap (λ (l : List ℕ). take (rows * i) rs ++ l) (take-append-drop rows (drop (rows * i) rs)) ∙ take-append-drop (rows * i) rs) in
      let whole : s ≡ book_of rows (take i ns ++ get_or ns i 0 ∷ drop (suc i) ns) (take (rows * i) rs ++ (take rows (drop (rows * i) rs) ++ drop (rows * i + rows) rs)) =
      book_of_shades rows s bytes book ∙ ap (λ (l : List ℕ). book_of rows l rs) (split_at ns i 0 (omega (arith, all)))
      ∙ ap (λ (l : List ℕ). book_of rows (take i ns ++ get_or ns i 0 ∷ drop (suc i) ns) l) thirds in
      let left : List ℕ = book_without rows (get_or ns i 0) s in
      let freed : body_length rows + entry_length ≡ length s - length left = omega (arith, shorter) in
      closing rows fits (take i ns) (get_or ns i 0) (drop (suc i) ns) (take (rows * i) rs) (take rows (drop (rows * i) rs)) (drop (rows * i + rows) rs)
      (below_take {m = 65536} (omega arith) i ns sound.small) (λ j. rw (get_or-drop (suc i) ns j 0) (sound.small (suc i + j)))
      n i (length-take-le i ns (omega (arith, all))) (omega (arith, length-drop (suc i) ns, all)) (length-take-le (rows * i) rs (omega (arith, within)))
      (length-take-le rows (drop (rows * i) rs) (omega (arith, length-drop (rows * i) rs, within))) whole e₁ e₂ e₃ e₄
      ∙ ap (λ (l : List ℕ). l ++ replicate (body_length rows + entry_length) 0) (sym (around rows s sound i (omega (arith, all))))
      ∙ ap (λ (k : ℕ). left ++ replicate k 0) freed

-- the same of a number that the book has
pub shorter_by : (rows : ℕ) → body_length rows < 65536 → (s : List ℕ) → AllBelow 256 s → is_book rows s ≡ true → (number : ℕ) → is_in number (numbers_of s) ≡ true
    → length s ≡ length (book_without rows number s) + (entry_length + body_length rows)
shorter_by rows fits s bytes book number e =
    let i : ℕ = index_of number (numbers_of s) in
    let inside : i < length (numbers_of s) = in_place number (numbers_of s) e in
    let own = ap (λ (k : ℕ). length (book_without rows k s)) (at_place number (numbers_of s) inside) in
    omega (arith, shorter rows fits s bytes book (count_of s) i refl (omega (arith, length-numbers_of s)), own)
