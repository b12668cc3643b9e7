-- The loops that test: what is left, tested from here, decides as the whole does, since what is passed has passed. Assumes nothing.
use mathlib.Core.Path.{◌≡◌, refl, sym, ap, ◌∙◌}
use mathlib.Core.Bool.{Bool, true, false, ◌&&◌, ◌||◌, cond, true≢false}
use Prim.Native.Nat.{ℕ, zero, suc, ◌+◌, ◌-◌, ◌*◌, ◌≤◌, ◌<◌}
use native.Mathlib.Omega.{arith}
use native.Mathlib.Nat.{mul-zero}
use mathlib.Core.List.{List, [], ◌∷◌}
use Rattle.std.specs.Cmp.Lexicographic.{pointwise}
use Rattle.std.proofs.Common.{Option, None, Some, MatchOption}
use Rattle.std.proofs.lemmas.Bool.Decides.{nat_tests}
use lib.ListN.{length, get_or, take}
use lib.Dec.{ltb, eqb}
use borrow.Author.Tests.{ltb-true, ltb-false, eq-eqb, ne_eqb, eqb-true}
use Rattle.cie.specs.Scales.{any_above}
use Rattle.cie.proofs.Scales.{above_append}
use Rattle.endian.specs.Bytes.{at16, words}
use Rattle.endian.proofs.Words.{words_add}
use Rattle.book.specs.Book.{head_length, entry_length, body_length, bodies_at, starts_with, entry_ok, entries_ok, readings_in, is_in, index_of}

eqb_swap : (x y : ℕ) → eqb x y ≡ eqb y x
eqb_swap x y = grind (arith, nat_tests)

-- bytes that begin with a text: the library compares as the definition does
pub starts_same : (p s : List ℕ) → pointwise eqb p (take (length p) s) ≡ starts_with p s
unfolding starts_with
starts_same [] s = refl
starts_same (x ∷ p) [] = refl
starts_same (x ∷ p) (y ∷ s) = go (starts_same p s) (eqb_swap x y)
  where
    go : pointwise eqb p (take (length p) s) ≡ starts_with p s → eqb x y ≡ eqb y x
        → (eqb x y && pointwise eqb p (take (length p) s)) ≡ (eqb y x && starts_with p s)
    go e f = rw (e, f)

-- the entries from the i-th of n on, where the number before them is known
abbrev pub entries_from : ℕ → List ℕ → ℕ → ℕ → ℕ → Bool
entries_from rows s n i before =
    entries_ok rows s (head_length + entry_length * i) before (bodies_at n + body_length rows * i) (n - i)

module _ (rows : ℕ) (s : List ℕ) (n i before : ℕ) where
  entries_first : i < n
      → entries_from rows s n i before
      ≡ (entry_ok rows s (head_length + entry_length * i) before (bodies_at n + body_length rows * i)
      && entries_from rows s n (i + 1) (at16 s (head_length + entry_length * i)))
  unfolding entries_ok
  entries_first h =
      let at = head_length + entry_length * i in
      let offset = bodies_at n + body_length rows * i in
      let more : n - i ≡ suc (n - (i + 1)) = omega arith in
      let next : at + entry_length ≡ head_length + entry_length * (i + 1) = omega arith in
      let due : offset + body_length rows ≡ bodies_at n + body_length rows * (i + 1) = omega arith in
      ap (λ (k : ℕ). entries_ok rows s at before offset k) more
      ∙ ap (λ (x : ℕ). entry_ok rows s at before offset && entries_ok rows s x (at16 s at) (offset + body_length rows) (n - (i + 1))) next
      ∙ ap (λ (x : ℕ). entry_ok rows s at before offset && entries_ok rows s (head_length + entry_length * (i + 1)) (at16 s at) x (n - (i + 1))) due

  module _ (h : i < n) {b : ℕ} (q : b ≡ body_length rows) {right : Bool}
      (e : right ≡ entry_ok rows s (head_length + entry_length * i) before (bodies_at n + b * i)) where
    entry_here : right ≡ entry_ok rows s (head_length + entry_length * i) before (bodies_at n + body_length rows * i)
    entry_here = e ∙ ap (λ (x : ℕ). entry_ok rows s (head_length + entry_length * i) before (bodies_at n + x * i)) q

    pub entries_off : right ≡ false → false ≡ entries_from rows s n i before
    entries_off t = rw (entries_first h, sym entry_here ∙ t)

    pub entries_on : right ≡ true → {k : ℕ} → k ≡ at16 s (head_length + entry_length * i)
        → entries_from rows s n (i + 1) k ≡ entries_from rows s n i before
    entries_on t p = ap (entries_from rows s n (i + 1)) p ∙ rw (entries_first h, sym entry_here ∙ t)

  pub entries_end : n ≤ i → true ≡ entries_from rows s n i before
  unfolding entries_ok
  entries_end h = let e : n - i ≡ 0 = omega arith in rw e

-- readings above a limit, in the bodies from the i-th of n on
abbrev pub above_from : ℕ → ℕ → List ℕ → ℕ → ℕ → Bool
above_from limit rows s n i = any_above limit (words s (bodies_at n + body_length rows * i) 2 (rows * (n - i)))

pub bodies_all : (limit rows : ℕ) (s : List ℕ) (n : ℕ) → any_above limit (readings_in rows s n) ≡ above_from limit rows s n 0
unfolding readings_in
bodies_all limit rows s n =
    let first : bodies_at n ≡ bodies_at n + body_length rows * 0 = omega arith in
    let all : n ≡ n - 0 = omega arith in
    ap (λ (x : ℕ). any_above limit (words s x 2 (rows * n))) first
    ∙ ap (λ (k : ℕ). any_above limit (words s (bodies_at n + body_length rows * 0) 2 (rows * k))) all

module _ (limit rows : ℕ) (s : List ℕ) (n i : ℕ) where
  bodies_first : i < n
      → above_from limit rows s n i
      ≡ (any_above limit (words s (bodies_at n + body_length rows * i) 2 rows) || above_from limit rows s n (i + 1))
  bodies_first h =
      let at = bodies_at n + body_length rows * i in
      let m = rows * (n - (i + 1)) in
      let more : n - i ≡ suc (n - (i + 1)) = omega arith in
      let e : rows * (n - i) ≡ rows + m = ap (λ (k : ℕ). rows * k) more ∙ omega arith in
      let next : at + 2 * rows ≡ bodies_at n + body_length rows * (i + 1) = omega arith in
      ap (λ (k : ℕ). any_above limit (words s at 2 k)) e ∙ ap (any_above limit) (words_add s rows m at 2)
      ∙ above_append limit (words s at 2 rows) (words s (at + 2 * rows) 2 m)
      ∙ ap (λ (x : ℕ). any_above limit (words s at 2 rows) || any_above limit (words s x 2 m)) next

  module _ (h : i < n) {b : ℕ} (q : b ≡ body_length rows) {above : Bool} (e : above ≡ any_above limit (words s (bodies_at n + b * i) 2 rows)) where
    body_here : above ≡ any_above limit (words s (bodies_at n + body_length rows * i) 2 rows)
    body_here = e ∙ ap (λ (x : ℕ). any_above limit (words s (bodies_at n + x * i) 2 rows)) q

    pub bodies_off : above ≡ true → true ≡ above_from limit rows s n i
    bodies_off t = rw (bodies_first h, sym body_here ∙ t)

    pub bodies_on : above ≡ false → above_from limit rows s n (i + 1) ≡ above_from limit rows s n i
    bodies_on t = rw (bodies_first h, sym body_here ∙ t)

  pub bodies_end : n ≤ i → false ≡ above_from limit rows s n i
  unfolding any_above words
  bodies_end h = let z : n - i ≡ 0 = omega arith in let e : rows * (n - i) ≡ 0 = ap (λ (k : ℕ). rows * k) z ∙ mul-zero rows in rw e

-- the place of a number: where it stands first, or the list's length where it stands nowhere
pub index_first : (k : ℕ) (xs : List ℕ) (i : ℕ) → i < length xs → get_or xs i 0 ≡ k → ((j : ℕ) → j < i → get_or xs j 0 ≡ k → ⊥) → i ≡ index_of k xs
unfolding index_of
index_first k [] i h e before = absurd (omega arith)
index_first k (x ∷ xs) zero h e before = rw (eq-eqb x k e)
index_first k (x ∷ xs) (suc i) h e before =
    let next = index_first k xs i (omega arith) e (λ j g. before (suc j) (omega arith)) in
    rw (ne_eqb x k (before 0 (omega arith))) (ap suc next)

pub index_nowhere : (k : ℕ) (xs : List ℕ) → ((j : ℕ) → j < length xs → get_or xs j 0 ≡ k → ⊥) → index_of k xs ≡ length xs
unfolding index_of
index_nowhere k [] none = refl
index_nowhere k (x ∷ xs) none =
    let next = index_nowhere k xs (λ j g. none (suc j) (omega arith)) in
    rw (ne_eqb x k (none 0 (omega arith))) (ap suc next)

pub found_place : (k : ℕ) (xs : List ℕ) {n count : ℕ} → n ≡ count → length xs ≡ count → (found : Option ℕ)
    → MatchOption found ((j : ℕ) → 0 ≤ j → j < n → get_or xs j 0 ≡ k → ⊥)
    (λ i. (0 ≤ i) × (i < n) × (get_or xs i 0 ≡ k) × ((j : ℕ) → 0 ≤ j → j < i → get_or xs j 0 ≡ k → ⊥))
    → MatchOption found (index_of k xs ≡ count) (λ i. (i ≡ index_of k xs) × (i < count))
found_place k xs p q None none = index_nowhere k xs (λ j h. none j (omega arith) (omega arith)) ∙ q
found_place k xs p q (Some i) (low, high, here, before) = (index_first k xs i (omega arith) here (λ j h. before j (omega arith) h), omega arith)

-- a number is in a list where its place is in the list
pub in_list : (k : ℕ) (xs : List ℕ) → index_of k xs < length xs → is_in k xs ≡ true
unfolding index_of is_in
in_list k [] h = absurd (omega arith)
in_list k (x ∷ xs) h = go (in_list k xs) (eqb x k) h
  where
    go : (index_of k xs < length xs → is_in k xs ≡ true) → (t : Bool) → cond t 0 (suc (index_of k xs)) < suc (length xs) → (t || is_in k xs) ≡ true
    go next true g = refl
    go next false g = next (omega arith)

pub not_in_list : (k : ℕ) (xs : List ℕ) → length xs ≤ index_of k xs → is_in k xs ≡ false
unfolding index_of is_in
not_in_list k [] h = refl
not_in_list k (x ∷ xs) h = go (not_in_list k xs) (eqb x k) h
  where
    go : (length xs ≤ index_of k xs → is_in k xs ≡ false) → (t : Bool) → suc (length xs) ≤ cond t 0 (suc (index_of k xs)) → (t || is_in k xs) ≡ false
    go next true g = absurd (omega arith)
    go next false g = next (omega arith)

pub in_place : (k : ℕ) (xs : List ℕ) → is_in k xs ≡ true → index_of k xs < length xs
in_place k xs h = go (ltb (index_of k xs) (length xs)) refl
  where
    go : (t : Bool) → ltb (index_of k xs) (length xs) ≡ t → index_of k xs < length xs
    go true e = ltb-true (index_of k xs) (length xs) e
    go false e = absurd (true≢false (sym h ∙ not_in_list k xs (ltb-false (index_of k xs) (length xs) e)))

-- and what stands there is the number
pub at_place : (k : ℕ) (xs : List ℕ) → index_of k xs < length xs → get_or xs (index_of k xs) 0 ≡ k
unfolding index_of
at_place k [] h = absurd (omega arith)
at_place k (x ∷ xs) h = go (at_place k xs) (eqb x k) refl h
  where
    go : (index_of k xs < length xs → get_or xs (index_of k xs) 0 ≡ k) → (t : Bool) → eqb x k ≡ t → cond t 0 (suc (index_of k xs)) < suc (length xs)
        → get_or (x ∷ xs) (cond t 0 (suc (index_of k xs))) 0 ≡ k
    go next true e g = eqb-true x k e
    go next false e g = next (omega arith)
