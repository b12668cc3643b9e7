-- Bytes and the number that they are: each byte is the number's remainder by 256, and the rest is its quotient. Assumes nothing.
use mathlib.Core.Path.{◌≡◌, refl, sym, ap, ◌∙◌}
use Prim.Native.Nat.{ℕ, zero, suc, ◌+◌, ◌*◌, ◌/◌, ◌%◌, ◌^◌, ◌≤◌, ◌<◌}
use native.Mathlib.Omega.{arith}
use native.Mathlib.Nat.{pow-succ', div-div-eq-div-mul}
use native.Mathlib.Numerals.{add-one}
use mathlib.Core.List.{List, [], ◌∷◌, ◌++◌}
use lib.ListN.{length, get_or, take, drop, length-drop}
use lib.Seq.{drop-cons, drop-drop, take-add, take_at, take-length, length-take-le, get_or-drop, drop-append-add}
use Rattle.std.specs.Int.{w16, w32, from_le_bytes, to_le_bytes}
use Rattle.endian.specs.Bytes.{little_endian, le16, le32, from_little_endian, part, number_at, at16, at32, AllBelow}

pub length-little_endian : (k n : ℕ) → length (little_endian k n) ≡ k
unfolding little_endian
length-little_endian zero n = refl
length-little_endian (suc k) n = ap suc (length-little_endian k (n / 256))

-- k bytes hold a number below 256 ^ k
pub from_little_endian_lem : (k n : ℕ) → n < 256 ^ k → from_little_endian (little_endian k n) ≡ n
unfolding little_endian from_little_endian
from_little_endian_lem zero n h = omega arith
from_little_endian_lem (suc k) n h =
    omega (arith, from_little_endian_lem k (n / 256) (omega (arith, pow-succ' 256 k)))

pub tail_below : {m x : ℕ} (xs : List ℕ) → AllBelow m (x ∷ xs) → AllBelow m xs
tail_below xs b i = b (suc i)

pub little_endian_from : (l : List ℕ) → AllBelow 256 l → little_endian (length l) (from_little_endian l) ≡ l
unfolding little_endian from_little_endian
little_endian_from [] b = refl
little_endian_from (x ∷ l) b =
    let m : (x + 256 * from_little_endian l) % 256 ≡ x = omega (arith, b 0) in
    let d : (x + 256 * from_little_endian l) / 256 ≡ from_little_endian l = omega (arith, b 0) in
    rw (m, d, little_endian_from l (tail_below l b))

-- parts
pub part_join : (s : List ℕ) (at n m : ℕ) → part s at n ++ part s (at + n) m ≡ part s at (n + m)
unfolding part
part_join s at n m = sym (take-add n m (drop at s) ∙ ap (λ (l : List ℕ). take n (drop at s) ++ take m l) (drop-drop n at s))

pub part_none : (s : List ℕ) (at : ℕ) → part s at 0 ≡ []
unfolding part
part_none s at = refl

pub part_one : (s : List ℕ) (at n : ℕ) → at < length s → part s at (suc n) ≡ get_or s at 0 ∷ part s (at + 1) n
unfolding part
part_one s at n h = rw (drop-cons s at 0 h, add-one)

pub part_whole : (s : List ℕ) → part s 0 (length s) ≡ s
unfolding part
part_whole s = take-length s

pub part_behind : (p s : List ℕ) (at k : ℕ) → part (p ++ s) (length p + at) k ≡ part s at k
unfolding part
part_behind p s at k = ap (take k) (drop-append-add p s at)

pub part_front : (p q : List ℕ) (k : ℕ) → length p ≡ k → part (p ++ q) 0 k ≡ p
unfolding part
part_front p q k e = take_at p q k e

length_part : (s : List ℕ) (at k : ℕ) → at + k ≤ length s → length (part s at k) ≡ k
unfolding part
length_part s at k h = length-take-le k (drop at s) (omega (arith, length-drop at s))

module _ {m : ℕ} (h : 0 < m) where
  pub below_take : (k : ℕ) (l : List ℕ) → AllBelow m l → AllBelow m (take k l)
  below_take zero l b i = h
  below_take (suc k) [] b i = h
  below_take (suc k) (x ∷ l) b zero = b 0
  below_take (suc k) (x ∷ l) b (suc i) = below_take k l (tail_below l b) i

below_part : (s : List ℕ) (at k : ℕ) → AllBelow 256 s → AllBelow 256 (part s at k)
unfolding part
below_part s at k b = below_take {m = 256} (omega arith) k (drop at s) (λ i. rw (get_or-drop at s i 0) (b (at + i)))

-- a number that was written reads back, and a number that was read writes the bytes that it was read from
pub number_at-behind : (k : ℕ) (p s : List ℕ) (at : ℕ) → number_at k (p ++ s) (length p + at) ≡ number_at k s at
unfolding number_at
number_at-behind k p s at = ap from_little_endian (part_behind p s at k)

pub number_at-front : (k n : ℕ) (q : List ℕ) → n < 256 ^ k → number_at k (little_endian k n ++ q) 0 ≡ n
unfolding number_at
number_at-front k n q h = ap from_little_endian (part_front (little_endian k n) q k (length-little_endian k n)) ∙ from_little_endian_lem k n h

module _ (s : List ℕ) (b : AllBelow 256 s) (k at : ℕ) (h : at + k ≤ length s) where
  pub little_endian-number_at : little_endian k (number_at k s at) ≡ part s at k
  unfolding number_at
  little_endian-number_at =
      ap (λ (i : ℕ). little_endian i (from_little_endian (part s at k))) (sym (length_part s at k h)) ∙ little_endian_from (part s at k) (below_part s at k b)

-- the library's bytes of a number, and its number of some bytes
pub at16_is : (s : List ℕ) (at : ℕ) → at + 2 ≤ length s → from_le_bytes w16 (get_or s at 0 ∷ get_or s (at + 1) 0 ∷ []) ≡ at16 s at
unfolding number_at from_little_endian
at16_is s at h =
    rw (part_one s at 1 (omega arith), part_one s (at + 1) 0 (omega arith), part_none s (at + 1 + 1)) (omega arith)

pub at32_is : (s : List ℕ) (at : ℕ) → at + 4 ≤ length s
    → from_le_bytes w32 (get_or s at 0 ∷ get_or s (at + 1) 0 ∷ get_or s (at + 2) 0 ∷ get_or s (at + 3) 0 ∷ []) ≡ at32 s at
unfolding number_at from_little_endian
at32_is s at h =
    let e : at + 1 + 1 ≡ at + 2 = omega arith in
    let f : at + 2 + 1 ≡ at + 3 = omega arith in
    rw (
      part_one s at 3 (omega arith),
      part_one s (at + 1) 2 (omega arith),
      e,
      part_one s (at + 2) 1 (omega arith),
      f,
      part_one s (at + 3) 0 (omega arith),
      part_none s (at + 3 + 1),
    ) (omega arith)

pub le16_is : (x : ℕ) → to_le_bytes w16 x ≡ le16 x
unfolding little_endian
le16_is x = refl

pub le32_is : (x : ℕ) → to_le_bytes w32 x ≡ le32 x
unfolding little_endian
le32_is x = simp div-div-eq-div-mul
