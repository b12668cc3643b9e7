-- What remains without a shade, over any number for each shade: with 1 these are laws of the numbers, with the rows laws of the readings.
-- Assumes nothing.
use mathlib.Core.Path.{◌≡◌, refl, sym, ap, ◌∙◌}
use mathlib.Core.Bool.{Bool, true, false, ◌||◌, cond}
use Prim.Native.Nat.{ℕ, zero, suc, ◌+◌, ◌*◌, ◌≤◌, ◌<◌}
use native.Mathlib.Omega.{arith}
use native.Mathlib.Nat.{mul-zero, zero-add}
use mathlib.Core.List.{List, [], ◌∷◌, ◌++◌, append_assoc}
use lib.ListN.{length, get_or, take, drop, length-append, length-drop, take-append-drop}
use lib.Seq.{take_at, drop_at, drop-drop, take-add, length-take-le}
use lib.Dec.{ltb, eqb}
use borrow.Author.Tests.{ltb-true, lt-ltb, eq-eqb, ne_eqb, eqb-true}
use Rattle.cie.specs.Scales.{any_above}
use Rattle.cie.proofs.Scales.{or_left, or_right, above_append, below_parts}
use Rattle.book.specs.Book.{rising, is_in, index_of, spectrum_of}
use Rattle.book.proofs.Rules.{and_left, and_right}
use Rattle.book.proofs.Rising.{rising_above}
use Rattle.strike.specs.Striking.{remaining}

-- so many for each of some numbers, and of them those of the first
module _ (each x : ℕ) (xs all : List ℕ) (long : length all ≡ each * length (x ∷ xs)) where
  long_rest : length (drop each all) ≡ each * length xs
  long_rest = omega (arith, length-drop each all)

  long_first : length (take each all) ≡ each
  long_first = length-take-le each all (omega arith)

-- a number that is not among them takes nothing
pub all_remain : (each k : ℕ) (xs all : List ℕ) → length all ≡ each * length xs → is_in k xs ≡ false → remaining each k xs all ≡ all
unfolding remaining is_in
all_remain each k [] [] long h = refl
all_remain each k [] (y ∷ all) long h = absurd (omega (arith, long))
all_remain each k (x ∷ xs) all long h =
    let next = all_remain each k xs (drop each all) (long_rest each x xs all long) (or_right (eqb x k) (is_in k xs) h) in
    rw (or_left (eqb x k) (is_in k xs) h, next) (take-append-drop each all)

-- numbers that rise have none of those before them
not_after : (k b : ℕ) (xs : List ℕ) → k ≤ b → rising b xs ≡ true → is_in k xs ≡ false
unfolding rising is_in
not_after k b [] h e = refl
not_after k b (x ∷ xs) h e =
    let above : b < x = ltb-true b x (and_left (ltb b x) (rising x xs) e) in
    rw (ne_eqb x k (λ f. omega arith)) (not_after k x xs (omega arith) (and_right (ltb b x) (rising x xs) e))

-- without the i-th of numbers that rise: what stands before its part, and what stands after it
pub remain_around : (each b i : ℕ) (xs all : List ℕ) → length all ≡ each * length xs → rising b xs ≡ true → i < length xs
    → remaining each (get_or xs i 0) xs all ≡ take (each * i) all ++ drop (each * i + each) all
unfolding remaining rising
remain_around each b i [] all long up h = absurd (omega arith)
remain_around each b zero (x ∷ xs) all long up h =
    let rest = all_remain each x xs (drop each all) (long_rest each x xs all long) (not_after x x xs (omega arith) (and_right (ltb b x) (rising x xs) up)) in
    rw (eq-eqb x x refl, rest, mul-zero each, zero-add each)
remain_around each b (suc i) (x ∷ xs) all long up h =
    let rises = and_right (ltb b x) (rising x xs) up in
    let other : eqb x (get_or xs i 0) ≡ false = ne_eqb x (get_or xs i 0) (λ e. omega (arith, rising_above x xs i rises (omega arith))) in
    let less : each * suc i ≡ each + each * i = omega arith in
    let more : each * suc i + each ≡ each + (each * i + each) = omega arith in
    let before : take (each * suc i) all ≡ take each all ++ take (each * i) (drop each all) =
    ap (λ (k : ℕ). take k all) less ∙ take-add each (each * i) all in
    let after : drop (each * suc i + each) all ≡ drop (each * i + each) (drop each all) =
    ap (λ (k : ℕ). drop k all) more ∙ sym (drop-drop (each * i + each) each all) in
    rw (other, remain_around each x i xs (drop each all) (long_rest each x xs all long) rises (omega arith), before, after)
    (sym (append_assoc (take each all) (take (each * i) (drop each all)) (drop (each * i + each) (drop each all))))

-- two shades, one after the other, in either order
pub remain_either : (each j k : ℕ) (xs all : List ℕ) → length all ≡ each * length xs
    → remaining each k (remaining 1 j xs xs) (remaining each j xs all) ≡ remaining each j (remaining 1 k xs xs) (remaining each k xs all)
unfolding remaining
remain_either each j k [] all long = refl
remain_either each j k (x ∷ xs) all long =
    go (eqb x j) (eqb x k) refl refl (remain_either each j k xs (drop each all) (long_rest each x xs all long))
  where
    own : length (take each all) ≡ each
    own = long_first each x xs all long

    go : (s t : Bool) → eqb x j ≡ s → eqb x k ≡ t
        → remaining each k (remaining 1 j xs xs) (remaining each j xs (drop each all)) ≡ remaining each j (remaining 1 k xs xs) (remaining each k xs (drop each all))
        → remaining each k (cond s [] (x ∷ []) ++ remaining 1 j xs xs) (cond s [] (take each all) ++ remaining each j xs (drop each all))
        ≡ remaining each j (cond t [] (x ∷ []) ++ remaining 1 k xs xs) (cond t [] (take each all) ++ remaining each k xs (drop each all))
    go true true p q next = next
    go true false p q next = rw (p, drop_at (take each all) (remaining each k xs (drop each all)) each own) next
    go false true p q next = rw (q, drop_at (take each all) (remaining each j xs (drop each all)) each own) next
    go false false p q next =
        let rj : List ℕ = remaining each j xs (drop each all) in
        let rk : List ℕ = remaining each k xs (drop each all) in
        rw (p, q, take_at (take each all) rj each own, take_at (take each all) rk each own, drop_at (take each all) rj each own, drop_at (take each all) rk each own)
        (ap (λ (l : List ℕ). take each all ++ l) next)

-- what holds of all holds of what remains
pub above_remain : (limit each k : ℕ) (xs all : List ℕ) → any_above limit all ≡ false → any_above limit (remaining each k xs all) ≡ false
unfolding remaining any_above
above_remain limit each k [] all h = refl
above_remain limit each k (x ∷ xs) all h = go (eqb x k) (above_remain limit each k xs (drop each all) parts.1)
  where
    parts : (any_above limit (take each all) ≡ false) × (any_above limit (drop each all) ≡ false)
    parts = below_parts limit each all h

    go : (t : Bool) → any_above limit (remaining each k xs (drop each all)) ≡ false
        → any_above limit (cond t [] (take each all) ++ remaining each k xs (drop each all)) ≡ false
    go true next = next
    go false next = above_append limit (take each all) (remaining each k xs (drop each all)) ∙ rw (parts.0, next)

-- numbers that rise still rise
rising_lower : (b c : ℕ) (xs : List ℕ) → b ≤ c → rising c xs ≡ true → rising b xs ≡ true
unfolding rising
rising_lower b c [] h e = refl
rising_lower b c (x ∷ xs) h e =
    let above : b < x = omega (arith, ltb-true c x (and_left (ltb c x) (rising x xs) e)) in
    rw (lt-ltb b x above) (and_right (ltb c x) (rising x xs) e)

pub rising_remain : (b k : ℕ) (xs : List ℕ) → rising b xs ≡ true → rising b (remaining 1 k xs xs) ≡ true
unfolding rising remaining
rising_remain b k [] e = refl
rising_remain b k (x ∷ xs) e = go (eqb x k) (rising_remain x k xs (and_right (ltb b x) (rising x xs) e))
  where
    up : ltb b x ≡ true
    up = and_left (ltb b x) (rising x xs) e

    go : (t : Bool) → rising x (remaining 1 k xs xs) ≡ true → rising b (cond t [] (x ∷ []) ++ remaining 1 k xs xs) ≡ true
    go true next = rising_lower b x (remaining 1 k xs xs) (omega (arith, ltb-true b x up)) next
    go false next = rw up next

-- so many for each, as before
pub long_remain : (each k : ℕ) (xs all : List ℕ) → length all ≡ each * length xs → length (remaining each k xs all) ≡ each * length (remaining 1 k xs xs)
unfolding remaining
long_remain each k [] all long = omega (arith, mul-zero each)
long_remain each k (x ∷ xs) all long = go (eqb x k) (long_remain each k xs (drop each all) (long_rest each x xs all long))
  where
    go : (t : Bool) → length (remaining each k xs (drop each all)) ≡ each * length (remaining 1 k xs xs)
        → length (cond t [] (take each all) ++ remaining each k xs (drop each all)) ≡ each * length (cond t [] (x ∷ []) ++ remaining 1 k xs xs)
    go true next = next
    go false next = omega (arith, length-append (take each all) (remaining each k xs (drop each all)), long_first each x xs all long)

pub few_remain : (k : ℕ) (xs : List ℕ) → length (remaining 1 k xs xs) ≤ length xs
unfolding remaining
few_remain k [] = omega arith
few_remain k (x ∷ xs) = go (eqb x k) (few_remain k xs)
  where
    go : (t : Bool) → length (remaining 1 k xs xs) ≤ length xs → length (cond t [] (x ∷ []) ++ remaining 1 k xs xs) ≤ suc (length xs)
    go true next = omega arith
    go false next = omega arith

-- which numbers remain, and what each of them has
pub gone : (k : ℕ) (xs : List ℕ) → is_in k (remaining 1 k xs xs) ≡ false
unfolding remaining is_in
gone k [] = refl
gone k (x ∷ xs) = go (eqb x k) refl (gone k xs)
  where
    go : (t : Bool) → eqb x k ≡ t → is_in k (remaining 1 k xs xs) ≡ false → is_in k (cond t [] (x ∷ []) ++ remaining 1 k xs xs) ≡ false
    go true e next = next
    go false e next = rw e next

module _ (j k : ℕ) (other : j ≡ k → ⊥) where
  pub others_stay : (xs : List ℕ) → is_in j (remaining 1 k xs xs) ≡ is_in j xs
  unfolding remaining is_in
  others_stay [] = refl
  others_stay (x ∷ xs) = go (eqb x k) refl (others_stay xs)
    where
      go : (t : Bool) → eqb x k ≡ t → is_in j (remaining 1 k xs xs) ≡ is_in j xs → is_in j (cond t [] (x ∷ []) ++ remaining 1 k xs xs) ≡ (eqb x j || is_in j xs)
      go true e next = rw (ne_eqb x j (λ f. other (sym f ∙ eqb-true x k e))) next
      go false e next = ap (λ (t : Bool). eqb x j || t) next

  pub same_spectrum : (rows : ℕ) (xs all : List ℕ) → length all ≡ rows * length xs
      → spectrum_of rows (remaining rows k xs all) (index_of j (remaining 1 k xs xs)) ≡ spectrum_of rows all (index_of j xs)
  unfolding remaining index_of spectrum_of
  same_spectrum rows [] [] long = refl
  same_spectrum rows [] (y ∷ all) long = absurd (omega (arith, long))
  same_spectrum rows (x ∷ xs) all long = go (eqb x k) (eqb x j) refl refl (same_spectrum rows xs (drop rows all) (long_rest rows x xs all long))
    where
      later : (i : ℕ) (l : List ℕ) → drop (rows * suc i) l ≡ drop (rows * i) (drop rows l)
      later i l = let e : rows * suc i ≡ rows + rows * i = omega arith in ap (λ (n : ℕ). drop n l) e ∙ sym (drop-drop (rows * i) rows l)

      go : (t u : Bool) → eqb x k ≡ t → eqb x j ≡ u
          → take rows (drop (rows * index_of j (remaining 1 k xs xs)) (remaining rows k xs (drop rows all))) ≡ take rows (drop (rows * index_of j xs) (drop rows all))
          → take rows (drop (rows * index_of j (cond t [] (x ∷ []) ++ remaining 1 k xs xs)) (cond t [] (take rows all) ++ remaining rows k xs (drop rows all)))
          ≡ take rows (drop (rows * cond u 0 (suc (index_of j xs))) all)
      go true true p q next = absurd (other (sym (eqb-true x j q) ∙ eqb-true x k p))
      go true false p q next = next ∙ ap (take rows) (sym (later (index_of j xs) all))
      go false true p q next = rw (q, mul-zero rows) (take_at (take rows all) (remaining rows k xs (drop rows all)) rows (long_first rows x xs all long))
      go false false p q next =
          rw (
            q,
            later (index_of j (remaining 1 k xs xs)) (take rows all ++ remaining rows k xs (drop rows all)),
            drop_at (take rows all) (remaining rows k xs (drop rows all)) rows (long_first rows x xs all long),
          )
          (next ∙ ap (take rows) (sym (later (index_of j xs) all)))
