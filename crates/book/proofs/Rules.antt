-- The rules that make bytes a book: one that is broken refutes it, and a book keeps each. Assumes nothing.
use mathlib.Core.Path.{◌≡◌, refl, sym, ap, ◌∙◌}
use mathlib.Core.Bool.{Bool, true, false, ◌&&◌, not, and-false, false≢true}
use Prim.Native.Nat.{ℕ, zero, suc, ◌+◌, ◌*◌, ◌≤◌, ◌<◌}
use native.Mathlib.Omega.{arith}
use mathlib.Core.List.{List}
use lib.ListN.{length, get_or}
use lib.Dec.{leb, ltb, eqb}
use borrow.Author.Tests.{leb-true, eqb-true, le-leb, lt-leb, eq-eqb, not-true}
use Rattle.cie.specs.Scales.{any_above, reader_limit}
use Rattle.endian.specs.Bytes.{at16, at32, words}
use Rattle.endian.proofs.Words.{length-words, words_within, get_d_words}
use Rattle.book.specs.Book.{magic, head_length, entry_length, body_length, most_shades, bodies_at, total, starts_with, entry_ok, entries_ok, is_book}
use Rattle.book.specs.Book.{count_of, numbers_of, body_length_at, readings_in, readings_of, Contents, spectrum_of}
use Rattle.book.proofs.Sizes.{readings_within}

pub and_left : (a b : Bool) → (a && b) ≡ true → a ≡ true
and_left true b e = refl
and_left false b e = e

pub and_right : (a b : Bool) → (a && b) ≡ true → b ≡ true
and_right true b e = e
and_right false b e = absurd (false≢true e)

-- the rules in the code's order; n is the count that the code has read
module _ (rows : ℕ) (s : List ℕ) where
  pub too_short : length s < head_length → false ≡ is_book rows s
  unfolding is_book
  too_short h = rw (lt-leb head_length (length s) h)

  pub begins_otherwise : starts_with magic s ≡ false → false ≡ is_book rows s
  unfolding is_book
  begins_otherwise h = rw (h, and-false (leb head_length (length s)))

  pub last_rule : {n : ℕ} → n ≡ count_of s → head_length ≤ length s → starts_with magic s ≡ true → n ≤ most_shades → length s ≡ total rows n
      → entries_ok rows s head_length 0 (bodies_at n) n ≡ true → not (any_above reader_limit (readings_in rows s n)) ≡ is_book rows s
  unfolding is_book
  last_rule {n} p h₁ h₂ h₃ h₄ h₅ =
      rw (← p, le-leb head_length (length s) h₁, h₂, le-leb n most_shades h₃, eq-eqb (length s) (total rows n) h₄, h₅)

-- what a book is, rule by rule
pub record Rules (rows : ℕ) (s : List ℕ) : Type 0 where
  pub long : head_length ≤ length s
  pub begins : starts_with magic s ≡ true
  pub few : count_of s ≤ most_shades
  pub whole : length s ≡ total rows (count_of s)
  pub entries : entries_ok rows s head_length 0 (bodies_at (count_of s)) (count_of s) ≡ true
  pub fair : any_above reader_limit (readings_of rows s) ≡ false

pub rules : (rows : ℕ) (s : List ℕ) → is_book rows s ≡ true → Rules rows s
unfolding is_book
rules rows s e =
    let b₁ : Bool = leb head_length (length s) in
    let b₂ : Bool = starts_with magic s in
    let b₃ : Bool = leb (count_of s) most_shades in
    let b₄ : Bool = eqb (length s) (total rows (count_of s)) in
    let b₅ : Bool = entries_ok rows s head_length 0 (bodies_at (count_of s)) (count_of s) in
    let b₆ : Bool = not (any_above reader_limit (readings_of rows s)) in
    let e₅ = and_left (b₁ && b₂ && b₃ && b₄ && b₅) b₆ e in
    let e₄ = and_left (b₁ && b₂ && b₃ && b₄) b₅ e₅ in
    let e₃ = and_left (b₁ && b₂ && b₃) b₄ e₄ in
    let e₂ = and_left (b₁ && b₂) b₃ e₃ in
    record {
      long = leb-true head_length (length s) (and_left b₁ b₂ e₂);
      begins = and_right b₁ b₂ e₂;
      few = leb-true (count_of s) most_shades (and_right (b₁ && b₂) b₃ e₃);
      whole = eqb-true (length s) (total rows (count_of s)) (and_right (b₁ && b₂ && b₃) b₄ e₄);
      entries = and_right (b₁ && b₂ && b₃ && b₄) b₅ e₅;
      fair = not-true (any_above reader_limit (readings_of rows s)) (and_right (b₁ && b₂ && b₃ && b₄ && b₅) b₆ e);
    }

-- a book has room for its contents
pub book_contents : (rows : ℕ) (s : List ℕ) → is_book rows s ≡ true → Contents s
book_contents rows s e = let r = rules rows s e in record { few = r.few; within = omega (arith, r.whole) }

-- each entry of a book names the body length
entries_lengths : (rows : ℕ) (s : List ℕ) (n at before offset i : ℕ) → entries_ok rows s at before offset n ≡ true → i < n
    → at16 s (at + entry_length * i + 2) ≡ body_length rows
unfolding entries_ok entry_ok
entries_lengths rows s zero at before offset i t h = absurd (omega arith)
entries_lengths rows s (suc n) at before offset i t h =
    let b₁ : Bool = ltb before (at16 s at) in
    let b₂ : Bool = eqb (at16 s (at + 2)) (body_length rows) in
    let b₃ : Bool = eqb (at32 s (at + 4)) offset in
    let rest : Bool = entries_ok rows s (at + entry_length) (at16 s at) (offset + body_length rows) n in
    go i h (eqb-true (at16 s (at + 2)) (body_length rows) (and_right b₁ b₂ (and_left (b₁ && b₂) b₃ (and_left (b₁ && b₂ && b₃) rest t))))
    (λ j. entries_lengths rows s n (at + entry_length) (at16 s at) (offset + body_length rows) j (and_right (b₁ && b₂ && b₃) rest t))
  where
    go : (i : ℕ) → i < suc n → at16 s (at + 2) ≡ body_length rows
        → ((j : ℕ) → j < n → at16 s (at + entry_length + entry_length * j + 2) ≡ body_length rows)
        → at16 s (at + entry_length * i + 2) ≡ body_length rows
    go zero h e next = ap (at16 s) (omega arith) ∙ e
    go (suc j) h e next = ap (at16 s) (omega arith) ∙ next j (omega arith)

pub body_lengths : (rows : ℕ) (s : List ℕ) → is_book rows s ≡ true → (i : ℕ) → i < count_of s → body_length_at s i ≡ body_length rows
body_lengths rows s e i h = entries_lengths rows s (count_of s) head_length 0 (bodies_at (count_of s)) i (rules rows s e).entries h

-- what a book holds, by place
pub length-numbers_of : (s : List ℕ) → length (numbers_of s) ≡ count_of s
unfolding numbers_of
length-numbers_of s = length-words s head_length entry_length (count_of s)

module _ (s : List ℕ) (i : ℕ) (h : i < count_of s) where
  pub number_is : at16 s (head_length + entry_length * i) ≡ get_or (numbers_of s) i 0
  unfolding numbers_of
  number_is = sym (get_d_words s (count_of s) head_length entry_length i h)

  pub spectrum_is : (rows : ℕ) {n b : ℕ} → n ≡ count_of s → b ≡ body_length rows → words s (bodies_at n + b * i) 2 rows ≡ spectrum_of rows (readings_of rows s) i
  unfolding spectrum_of readings_in
  spectrum_is rows {n} {b} p q =
      let place : bodies_at n + b * i ≡ bodies_at (count_of s) + 2 * (rows * i) = omega (arith, ap (λ (k : ℕ). k * i) q) in
      ap (λ (k : ℕ). words s k 2 rows) place
      ∙ sym (words_within s (bodies_at (count_of s)) 2 (rows * i) rows (rows * count_of s) (readings_within rows i (count_of s) h))
