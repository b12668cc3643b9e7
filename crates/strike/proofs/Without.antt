-- A book without a shade: its parts close up, and with the count and the entries written anew they are the book of the remaining shades.
-- Assumes nothing.
use mathlib.Core.Path.{◌≡◌, refl, sym, ap, ◌∙◌}
use Prim.Native.Nat.{ℕ, suc, ◌+◌, ◌-◌, ◌*◌, ◌≤◌, ◌<◌}
use native.Mathlib.Omega.{arith}
use native.Mathlib.Nat.{zero-add}
use mathlib.Core.List.{List, [], ◌∷◌, ◌++◌, append_assoc}
use lib.ListN.{length, take, drop, replicate, length-append, replicate-append-replicate}
use lib.Seq.{sets, sets-eq, take_at, drop_at}
use Rattle.endian.specs.Bytes.{le16, words, bytes_of, AllBelow}
use Rattle.endian.proofs.Parts.{length-little_endian}
use Rattle.endian.proofs.Words.{length-bytes_of, bytes_of-append, words_add, words_past}
use Rattle.book.specs.Book.{magic, count_place, head_length, entry_length, body_length, bodies_at, entry_of, contents_of, book_of}
use Rattle.book_writer.proofs.Stored.{length-entry_of, length-contents_of}
use Rattle.book_writer.proofs.Back.{numbers_read}

-- x taken out between f and q, with z put to the end; and y stored over x, which is as long
module _ (f x q : List ℕ) (a : ℕ) (front : length f ≡ a) {d d' : List ℕ} (e : d ≡ f ++ (x ++ q)) where
  taken : (z : List ℕ) (n : ℕ) → length x ≡ n → d' ≡ take a d ++ drop (a + n) d ++ z → d' ≡ f ++ (q ++ z)
  taken z n g h =
      let behind : drop (a + n) (f ++ (x ++ q)) ≡ q =
      ap (drop (a + n)) (sym (append_assoc f x q)) ∙ drop_at (f ++ x) q (a + n) (omega (arith, length-append f x)) in
      h ∙ rw (e, take_at f (x ++ q) a front, behind) (append_assoc f q z)

  stored : (y : List ℕ) → length x ≡ length y → d' ≡ sets d a y → d' ≡ f ++ (y ++ q)
  stored y g h =
      let room : a + length y ≤ length (f ++ (x ++ q)) = omega (arith, length-append f (x ++ q), length-append x q) in
      let behind : drop (a + length y) (f ++ (x ++ q)) ≡ q =
      ap (drop (a + length y)) (sym (append_assoc f x q)) ∙ drop_at (f ++ x) q (a + length y) (omega (arith, length-append f x)) in
      h ∙ ap (λ (l : List ℕ). sets l a y) e ∙ sets-eq y (f ++ (x ++ q)) a room ∙ rw (take_at f (x ++ q) a front, behind) (append_assoc f y q)

-- the entries of two runs of shades
contents_append : (rows o : ℕ) (xs ys : List ℕ) → contents_of rows o (xs ++ ys) ≡ contents_of rows o xs ++ contents_of rows (o + body_length rows * length xs) ys
unfolding contents_of
contents_append rows o [] ys = ap (λ (k : ℕ). contents_of rows k ys) (omega arith)
contents_append rows o (x ∷ xs) ys =
    let b : ℕ = body_length rows in
    let place : o + b + b * length xs ≡ o + b * suc (length xs) = omega arith in
    ap (λ (l : List ℕ). entry_of rows x o ++ l) (contents_append rows (o + b) xs ys ∙ ap (λ (k : ℕ). contents_of rows (o + b) xs ++ contents_of rows k ys) place)
    ∙ sym (append_assoc (entry_of rows x o) (contents_of rows (o + b) xs) (contents_of rows (o + b * suc (length xs)) ys))

-- their numbers, whatever their offsets are
module _ (rows : ℕ) (fits : body_length rows < 65536) (xs ys : List ℕ) (bx : AllBelow 65536 xs) (by : AllBelow 65536 ys) where
  numbers_two : (o o' : ℕ) (f r : List ℕ) (at n : ℕ) → length f ≡ at → n ≡ length xs + length ys
      → words (f ++ ((contents_of rows o xs ++ contents_of rows o' ys) ++ r)) at entry_length n ≡ xs ++ ys
  numbers_two o o' f r at n e g =
      let k₁ : List ℕ = contents_of rows o xs in
      let k₂ : List ℕ = contents_of rows o' ys in
      let s : List ℕ = k₁ ++ (k₂ ++ r) in
      let first : words s 0 entry_length (length xs) ≡ xs = numbers_read rows fits (k₂ ++ r) xs o bx in
      let second : words s (entry_length * length xs) entry_length (length ys) ≡ ys =
      words_past k₁ (k₂ ++ r) (entry_length * length xs) entry_length (length ys) (length-contents_of rows o xs) ∙ numbers_read rows fits r ys o' by in
      ap (λ (l : List ℕ). words (f ++ l) at entry_length n) (append_assoc k₁ k₂ r)
      ∙ words_past f s at entry_length n e
      ∙ ap (λ (i : ℕ). words s 0 entry_length i) g
      ∙ words_add s (length xs) (length ys) 0 entry_length
      ∙ ap (λ (i : ℕ). words s 0 entry_length (length xs) ++ words s i entry_length (length ys)) (zero-add (entry_length * length xs))
      ∙ rw (first, second)

-- the steps of a strike over any parts: the head m, the count c and what becomes of it, the entries k₁, e, k₂, the bodies p, y, q, and zeros
module _ (m c c' k₁ e k₂ p y q z₁ z₂ : List ℕ) (a₁ n₁ a₂ n₂ a₃ : ℕ) (f₁ : length (m ++ (c ++ ((k₁ ++ (e ++ k₂)) ++ p))) ≡ a₁) (g₁ : length y ≡ n₁)
    (f₂ : length (m ++ (c ++ k₁)) ≡ a₂) (g₂ : length e ≡ n₂) (f₃ : length m ≡ a₃) (g₃ : length c ≡ length c') where
  steps : {d₀ d₁ d₂ d₃ : List ℕ} → d₀ ≡ m ++ (c ++ ((k₁ ++ (e ++ k₂)) ++ (p ++ (y ++ q)))) → d₁ ≡ take a₁ d₀ ++ drop (a₁ + n₁) d₀ ++ z₁
      → d₂ ≡ take a₂ d₁ ++ drop (a₂ + n₂) d₁ ++ z₂ → d₃ ≡ sets d₂ a₃ c' → d₃ ≡ m ++ c' ++ ((k₁ ++ k₂) ++ (p ++ q ++ (z₁ ++ z₂)))
  steps {d₀} {d₁} {d₂} {d₃} e₀ e₁ e₂ e₃ =
      let s₁ : d₁ ≡ m ++ (c ++ ((k₁ ++ (e ++ k₂)) ++ p)) ++ (q ++ z₁) = taken (m ++ (c ++ ((k₁ ++ (e ++ k₂)) ++ p))) y q a₁ f₁ (e₀ ∙ simp append_assoc) z₁ n₁ g₁ e₁ in
      let s₂ : d₂ ≡ m ++ (c ++ k₁) ++ (k₂ ++ (p ++ (q ++ z₁)) ++ z₂) =
      taken (m ++ (c ++ k₁)) e (k₂ ++ (p ++ (q ++ z₁))) a₂ f₂ (s₁ ∙ simp append_assoc) z₂ n₂ g₂ e₂ in
      stored m c (k₁ ++ (k₂ ++ (p ++ (q ++ z₁)) ++ z₂)) a₃ f₃ (s₂ ∙ simp append_assoc) c' g₃ e₃ ∙ simp append_assoc

-- the book of n shades with one at the place i, and that one struck
module _ (rows : ℕ) (fits : body_length rows < 65536) (xs : List ℕ) (x : ℕ) (ys ps y qs : List ℕ) (bx : AllBelow 65536 xs) (by : AllBelow 65536 ys)
    (n i : ℕ) (at : length xs ≡ i) (count : n ≡ i + suc (length ys)) (long : length ps ≡ rows * i) (body : length y ≡ rows) where
  -- where its body begins, and the entries before its own and after it
  abbrev place : ℕ
  place = bodies_at n + body_length rows * i

  before : List ℕ
  before = contents_of rows (bodies_at n) xs

  after : List ℕ
  after = contents_of rows (place + body_length rows) ys

  book_parts : book_of rows (xs ++ x ∷ ys) (ps ++ (y ++ qs))
      ≡ magic ++ (le16 n ++ ((before ++ (entry_of rows x place ++ after)) ++ (bytes_of ps ++ (bytes_of y ++ bytes_of qs))))
  unfolding book_of contents_of before after
  book_parts =
      let all : length (xs ++ x ∷ ys) ≡ n = omega (arith, length-append xs (x ∷ ys)) in
      let bytes : bytes_of (ps ++ (y ++ qs)) ≡ bytes_of ps ++ (bytes_of y ++ bytes_of qs) =
      bytes_of-append ps (y ++ qs) ∙ ap (λ (l : List ℕ). bytes_of ps ++ l) (bytes_of-append y qs) in
      rw (all, bytes, contents_append rows (bodies_at n) xs (x ∷ ys), at)

  pub closing : {d₀ d₁ d₂ d₃ d₄ : List ℕ} → d₀ ≡ book_of rows (xs ++ x ∷ ys) (ps ++ (y ++ qs))
      → d₁ ≡ take place d₀ ++ drop (place + body_length rows) d₀ ++ replicate (body_length rows) 0
      → d₂ ≡ take (bodies_at i) d₁ ++ drop (bodies_at i + entry_length) d₁ ++ replicate entry_length 0
      → d₃ ≡ sets d₂ count_place (le16 (n - 1))
      → d₄ ≡ sets d₃ head_length (contents_of rows (bodies_at (n - 1)) (words d₃ head_length entry_length (n - 1)))
      → d₄ ≡ book_of rows (xs ++ ys) (ps ++ qs) ++ replicate (body_length rows + entry_length) 0
  unfolding book_of before after
  closing {d₀} {d₁} {d₂} {d₃} {d₄} e₀ e₁ e₂ e₃ e₄ =
      let e : List ℕ = entry_of rows x place in
      let p : List ℕ = bytes_of ps in
      let q : List ℕ = bytes_of qs in
      let z : List ℕ = replicate (body_length rows) 0 ++ replicate entry_length 0 in
      let k : List ℕ = contents_of rows (bodies_at (n - 1)) (xs ++ ys) in
      let n₁ = length-contents_of rows (bodies_at n) xs in
      let n₂ = length-entry_of rows x place in
      let n₃ = length-contents_of rows (place + body_length rows) ys in
      let c = length-little_endian 2 n in
      let c' = length-little_endian 2 (n - 1) in
      let rest : length (xs ++ ys) ≡ n - 1 = omega (arith, length-append xs ys) in
      let f₁ : length (magic ++ (le16 n ++ ((before ++ (e ++ after)) ++ p))) ≡ place =
      omega (
        arith,
        length-append (le16 n) ((before ++ (e ++ after)) ++ p),
        length-append (before ++ (e ++ after)) p,
        length-append before (e ++ after),
        length-append e after,
        length-bytes_of ps,
        ap (λ (k : ℕ). 2 * k) long,
      ) in
      let f₂ : length (magic ++ (le16 n ++ before)) ≡ bodies_at i = omega (arith, length-append (le16 n) before) in
      let head : length (magic ++ le16 (n - 1)) ≡ head_length = omega (arith, c') in
      let s₃ : d₃ ≡ magic ++ le16 (n - 1) ++ ((before ++ after) ++ (p ++ q ++ z)) =
      steps magic (le16 n) (le16 (n - 1)) before e after p (bytes_of y) q (replicate (body_length rows) 0) (replicate entry_length 0)
      place (body_length rows) (bodies_at i) entry_length count_place
      f₁ (length-bytes_of y ∙ ap (λ (k : ℕ). 2 * k) body) f₂ n₂ refl (c ∙ sym c') (e₀ ∙ book_parts) e₁ e₂ e₃ in
      let numbers : words d₃ head_length entry_length (n - 1) ≡ xs ++ ys =
      ap (λ (l : List ℕ). words l head_length entry_length (n - 1)) s₃
      ∙ numbers_two rows fits xs ys bx by (bodies_at n) (place + body_length rows) (magic ++ le16 (n - 1)) (p ++ q ++ z) head_length (n - 1) head (omega arith) in
      let same : length (before ++ after) ≡ length k = omega (arith, length-append before after, length-contents_of rows (bodies_at (n - 1)) (xs ++ ys), length-append xs ys) in
      let s₄ : d₄ ≡ magic ++ le16 (n - 1) ++ (k ++ (p ++ q ++ z)) =
      stored (magic ++ le16 (n - 1)) (before ++ after) (p ++ q ++ z) head_length head s₃ k same
      (e₄ ∙ ap (λ (l : List ℕ). sets d₃ head_length (contents_of rows (bodies_at (n - 1)) l)) numbers) in
      s₄ ∙ rw (replicate-append-replicate {A = ℕ} (body_length rows) entry_length 0, ← bytes_of-append ps qs, ← rest) (simp append_assoc)
