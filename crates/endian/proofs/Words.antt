-- Runs of 2-byte numbers: the words at a step, and the bytes of a list of numbers, by one word more or less. Assumes nothing.
use mathlib.Core.Path.{◌≡◌, refl, sym, ap, ◌∙◌}
use Prim.Native.Nat.{ℕ, zero, suc, ◌+◌, ◌-◌, ◌*◌, ◌≤◌, ◌<◌}
use native.Mathlib.Omega.{arith}
use native.Mathlib.Nat.{add_assoc, add-zero}
use native.Mathlib.Numerals.{add-one}
use mathlib.Core.List.{List, [], ◌∷◌, ◌++◌, append_assoc}
use Rattle.std.proofs.lemmas.List.{set_at, take_more, length-take-le}
use lib.ListN.{length, get_or, set, take, drop, take-append-drop, drop_of_length-le}
use lib.Seq.{sets, drop-cons, drop-drop, take_at, drop_at, get_or-drop}
use Rattle.endian.specs.Bytes.{little_endian, le16, from_little_endian, number_at, at16, part, words, bytes_of, AllBelow}
use Rattle.stores.proofs.Runs.{sets_append}
use Rattle.endian.proofs.Parts.{length-little_endian, little_endian-number_at, number_at-behind, number_at-front, part_join, part_none, tail_below}

-- the words at a step
pub length-words : (s : List ℕ) (at step n : ℕ) → length (words s at step n) ≡ n
unfolding words
length-words s at step zero = refl
length-words s at step (suc n) = ap suc (length-words s (at + step) step n)

pub words_none : (s : List ℕ) (at step n : ℕ) → n ≤ 0 → words s at step n ≡ []
unfolding words
words_none s at step n h = let e : n ≡ 0 = omega arith in rw e

pub words_first : (s : List ℕ) (at step m : ℕ) {n : ℕ} → n ≡ suc m → words s at step n ≡ at16 s at ∷ words s (at + step) step m
unfolding words
words_first s at step m e = ap (λ (k : ℕ). words s at step k) e

pub words_behind : (p s : List ℕ) (n at step : ℕ) → words (p ++ s) (length p + at) step n ≡ words s at step n
unfolding words
words_behind p s zero at step = refl
words_behind p s (suc n) at step = rw (number_at-behind 2 p s at, add_assoc (length p) at step, words_behind p s n (at + step) step)

pub words_past : (p s : List ℕ) (at step n : ℕ) → length p ≡ at → words (p ++ s) at step n ≡ words s 0 step n
words_past p s at step n e = ap (λ (i : ℕ). words (p ++ s) i step n) (sym e ∙ sym (add-zero (length p))) ∙ words_behind p s n 0 step

pub words_add : (s : List ℕ) (n m at step : ℕ) → words s at step (n + m) ≡ words s at step n ++ words s (at + step * n) step m
unfolding words
words_add s zero m at step = let e : at ≡ at + step * 0 = omega arith in let f : 0 + m ≡ m = omega arith in rw f (ap (λ (i : ℕ). words s i step m) e)
words_add s (suc n) m at step =
    let e : at + step + step * n ≡ at + step * suc n = omega arith in
    words_first s at step (n + m) {n = suc n + m} (omega arith)
    ∙ ap (λ (l : List ℕ). at16 s at ∷ l)
    (words_add s n m (at + step) step ∙ ap (λ (i : ℕ). words s (at + step) step n ++ words s i step m) e)

pub get_d_words : (s : List ℕ) (n at step i : ℕ) → i < n → get_or (words s at step n) i 0 ≡ at16 s (at + step * i)
unfolding words
get_d_words s zero at step i h = absurd (omega arith)
get_d_words s (suc n) at step zero h = ap (at16 s) (omega arith)
get_d_words s (suc n) at step (suc i) h = get_d_words s n (at + step) step i (omega arith) ∙ ap (at16 s) (omega arith)

-- bytes are below 256, so what 2 of them are is below 256 × 256
two_below : (l : List ℕ) → AllBelow 256 l → from_little_endian (take 2 l) < 65536
unfolding from_little_endian
two_below [] b = omega arith
two_below (x ∷ []) b = omega (arith, b 0)
two_below (x ∷ y ∷ l) b = omega (arith, b 0, b 1)

pub words_below : (s : List ℕ) → AllBelow 256 s → (n at step : ℕ) → AllBelow 65536 (words s at step n)
unfolding words number_at part
words_below s b zero at step i = omega arith
words_below s b (suc n) at step zero = two_below (drop at s) (λ i. rw (get_or-drop at s i 0) (b (at + i)))
words_below s b (suc n) at step (suc i) = words_below s b n (at + step) step i

-- k words from the j-th of a run on
pub words_within : (s : List ℕ) (at step j k n : ℕ) → j + k ≤ n → take k (drop j (words s at step n)) ≡ words s (at + step * j) step k
words_within s at step j k n h = go (n - (j + k)) (omega arith)
  where
    go : (m : ℕ) → n ≡ j + (k + m) → take k (drop j (words s at step n)) ≡ words s (at + step * j) step k
    go m e =
        let w : List ℕ = words s (at + step * j) step k in
        let split : words s at step n ≡ words s at step j ++ (w ++ words s (at + step * j + step * k) step m) =
        ap (words s at step) e ∙ words_add s j (k + m) at step ∙ ap (λ (l : List ℕ). words s at step j ++ l) (words_add s k m (at + step * j) step) in
        rw (split, drop_at (words s at step j) (w ++ words s (at + step * j + step * k) step m) j (length-words s at step j))
        (take_at w (words s (at + step * j + step * k) step m) k (length-words s (at + step * j) step k))

-- the bytes of a list of numbers
pub length-bytes_of : (xs : List ℕ) → length (bytes_of xs) ≡ 2 * length xs
unfolding bytes_of little_endian
length-bytes_of [] = refl
length-bytes_of (x ∷ xs) = omega (arith, length-bytes_of xs)

pub bytes_of-append : (xs ys : List ℕ) → bytes_of (xs ++ ys) ≡ bytes_of xs ++ bytes_of ys
unfolding bytes_of
bytes_of-append [] ys = refl
bytes_of-append (x ∷ xs) ys = ap (λ (r : List ℕ). le16 x ++ r) (bytes_of-append xs ys) ∙ sym (append_assoc (le16 x) (bytes_of xs) (bytes_of ys))

-- the bytes from a number on: those of k numbers, and those of the rest
pub bytes_of-split : (k a : ℕ) (xs : List ℕ) → bytes_of (drop a xs) ≡ bytes_of (take k (drop a xs)) ++ bytes_of (drop (a + k) xs)
bytes_of-split k a xs =
    ap bytes_of (sym (take-append-drop k (drop a xs)))
    ∙ bytes_of-append (take k (drop a xs)) (drop k (drop a xs))
    ∙ ap (λ (r : List ℕ). bytes_of (take k (drop a xs)) ++ bytes_of r) (drop-drop k a xs)

-- numbers that were written read back, and numbers that were read write the bytes that they were read from
pub words-bytes_of : (xs q : List ℕ) → AllBelow 65536 xs → words (bytes_of xs ++ q) 0 2 (length xs) ≡ xs
unfolding bytes_of words
words-bytes_of [] q b = refl
words-bytes_of (x ∷ xs) q b =
    let r : List ℕ = bytes_of xs ++ q in
    let next : words (le16 x ++ r) (0 + 2) 2 (length xs) ≡ xs =
    ap (λ (i : ℕ). words (le16 x ++ r) i 2 (length xs)) (omega (arith, length-little_endian 2 x))
    ∙ words_behind (le16 x) r (length xs) 0 2
    ∙ words-bytes_of xs q (tail_below xs b) in
    ap (λ (s : List ℕ). words s 0 2 (suc (length xs))) (append_assoc (le16 x) (bytes_of xs) q) ∙ rw (number_at-front 2 x r (b 0), next)

pub bytes_of-words : (s : List ℕ) → AllBelow 256 s → (n at : ℕ) → at + 2 * n ≤ length s → bytes_of (words s at 2 n) ≡ part s at (2 * n)
unfolding bytes_of words
bytes_of-words s b zero at h = sym (part_none s at)
bytes_of-words s b (suc n) at h =
    rw (little_endian-number_at s b 2 at (omega arith), bytes_of-words s b n (at + 2) (omega arith)) (part_join s at 2 (2 * n) ∙ ap (part s at) (omega arith))

-- one turn of the loop that reads words
pub words_read : (s d : List ℕ) (at n : ℕ) → n < length d
    → set (words s at 2 n ++ drop n d) n (at16 s (at + 2 * n)) ≡ words s at 2 (n + 1) ++ drop (n + 1) d
unfolding words
words_read s d at n h =
    let next : List ℕ = at16 s (at + 2 * n) ∷ [] in
    rw (drop-cons d n 0 h, set_at (words s at 2 n) (get_or d n 0) (drop (suc n) d) (at16 s (at + 2 * n)) n (length-words s at 2 n), words_add s n 1 at 2, add-one)
    (sym (append_assoc (words s at 2 n) next (drop (suc n) d)))

-- one turn of the loop that writes words
pub bytes_of_written : (d ws : List ℕ) (i : ℕ) → i < length ws
    → sets (sets d 0 (bytes_of (take i ws))) (2 * i) (le16 (get_or ws i 0)) ≡ sets d 0 (bytes_of (take (i + 1) ws))
unfolding bytes_of little_endian
bytes_of_written d ws i h =
    let n : 0 + length (bytes_of (take i ws)) ≡ 2 * i = omega (arith, length-bytes_of (take i ws), length-take-le i ws (omega arith)) in
    rw (take_more ws i 0 h, bytes_of-append, sets_append, n)

pub bytes_of-stored : (d : List ℕ) (at i : ℕ) (l : List ℕ) → length l ≤ i → sets d at (bytes_of (drop i l)) ≡ d
unfolding bytes_of
bytes_of-stored d at i l h = rw (drop_of_length-le l h)
