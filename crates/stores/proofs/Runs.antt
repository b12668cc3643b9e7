-- Runs of stores: `sets d at xs` puts xs into d from a place on, one by one, so what one run leaves the next goes on from.
-- Assumes nothing.
use mathlib.Core.Path.{◌≡◌, refl, sym, ap, ◌∙◌}
use Prim.Native.Nat.{ℕ, suc, ◌+◌, ◌-◌, ◌≤◌, ◌<◌}
use native.Mathlib.Nat.{add-zero, zero-add, suc-add}
use native.Mathlib.Omega.{arith}
use mathlib.Core.List.{List, [], ◌∷◌, ◌++◌, append-nil, append_assoc}
use native.Mathlib.Numerals.{add-one}
use lib.ListN.{length, get_or, take, drop, set, length-drop, take-append-drop, drop_of_length-le}
use lib.Seq.{sets, sets-eq, drop-cons, drop-drop, take_all, length-take-le}

-- a run goes on where the one before it left off
pub sets_append : (d : List ℕ) (at : ℕ) (xs ys : List ℕ) → sets d at (xs ++ ys) ≡ sets (sets d at xs) (at + length xs) ys
sets_append d at [] ys = ap (λ (k : ℕ). sets d k ys) (sym (add-zero at))
sets_append d at (x ∷ xs) ys =
    sets_append (set d at x) (suc at) xs ys
    ∙ ap (λ (k : ℕ). sets (sets (set d at x) (suc at) xs) k ys) (omega arith)

-- the same, with the second run's place as the code has it
pub sets_then : (d : List ℕ) (at k : ℕ) (xs ys : List ℕ) → length xs ≡ k → sets (sets d at xs) (at + k) ys ≡ sets d at (xs ++ ys)
sets_then d at k xs ys e = rw (← e) (sym (sets_append d at xs ys))

set_right : (p e : List ℕ) (i x : ℕ) → set (p ++ e) (length p + i) x ≡ p ++ set e i x
set_right [] e i x = ap (λ (k : ℕ). set e k x) (zero-add i)
set_right (y ∷ p) e i x =
    ap (λ (k : ℕ). set (y ∷ (p ++ e)) k x) (suc-add (length p) i) ∙ ap (λ (r : List ℕ). y ∷ r) (set_right p e i x)

-- a run past a front leaves the front
sets_right : (p e : List ℕ) (i : ℕ) (xs : List ℕ) → sets (p ++ e) (length p + i) xs ≡ p ++ sets e i xs
sets_right p e i [] = refl
sets_right p e i (x ∷ xs) =
    ap (λ (d : List ℕ). sets d (suc (length p + i)) xs) (set_right p e i x)
    ∙ ap (λ (k : ℕ). sets (p ++ set e i x) k xs) (omega arith)
    ∙ sets_right p (set e i x) (suc i) xs

-- the part that is lent from a place to the end, `&mut d[a..]`, put back: the new end
pub lent_end : (d ys : List ℕ) (a k : ℕ) → length d - a ≡ k → take a d ++ (ys ++ drop k (drop a d)) ≡ take a d ++ ys
lent_end d ys a k e =
    let l : length (drop a d) ≤ k = omega (arith, length-drop a d) in
    ap (λ (r : List ℕ). take a d ++ (ys ++ r)) (drop_of_length-le (drop a d) l) ∙ ap (λ (r : List ℕ). take a d ++ r) (append-nil ys)

-- a run from the start of such a part is a run in d from a
pub sets_part : (d : List ℕ) (a k : ℕ) (xs : List ℕ) → a ≤ length d → length d - a ≡ k
    → take a d ++ (sets (take k (drop a d)) 0 xs ++ drop k (drop a d)) ≡ sets d a xs
sets_part d a k xs h e =
    lent_end d (sets (take k (drop a d)) 0 xs) a k e
    ∙ ap (λ (r : List ℕ). take a d ++ sets r 0 xs) (take_all k (drop a d) (omega (arith, length-drop a d)))
    ∙ sym (sets_right (take a d) (drop a d) 0 xs)
    ∙ ap (λ (r : List ℕ). sets r (length (take a d) + 0) xs) (take-append-drop a d)
    ∙ ap (λ (i : ℕ). sets d i xs) (add-zero (length (take a d)) ∙ length-take-le a d h)

-- a run from the first place on is the new front
pub sets_front : (d xs : List ℕ) → length xs ≤ length d → sets d 0 xs ≡ xs ++ drop (length xs) d
sets_front d xs h = sets-eq xs d 0 (omega arith) ∙ ap (λ (k : ℕ). xs ++ drop k d) (zero-add (length xs))

-- a run over all of the places
pub sets_over : (d xs : List ℕ) → length xs ≡ length d → sets d 0 xs ≡ xs
sets_over d xs e =
    sets_front d xs (omega arith) ∙ ap (λ (r : List ℕ). xs ++ r) (drop_of_length-le d {i = length xs} (omega arith)) ∙ append-nil xs

-- one turn of a loop that stores the words of a list, and its end
pub run_more : (d words : List ℕ) (i : ℕ) → i < length words → sets (set d i (get_or words i 0)) (i + 1) (drop (i + 1) words) ≡ sets d i (drop i words)
run_more d words i h = rw (drop-cons words i 0 h, add-one)

pub run_ended : (d words : List ℕ) (i : ℕ) → length words ≤ i → sets d i (drop i words) ≡ d
run_ended d words i h = rw (drop_of_length-le words h)

-- what is copied over a part of k places, `&mut d[at..at + k]`, is a run in d
pub sets_mid : (d xs : List ℕ) (at k : ℕ) → at + length xs ≤ length d → k ≡ length xs → take at d ++ (xs ++ drop k (drop at d)) ≡ sets d at xs
sets_mid d xs at k h e = rw (drop-drop k at d, e) (sym (sets-eq xs d at h ∙ append_assoc (take at d) xs (drop (at + length xs) d)))
