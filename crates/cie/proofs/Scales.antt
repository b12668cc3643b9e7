-- Laws of limits on a table's entries. Assumes nothing.
use mathlib.Core.Path.{◌≡◌, refl, sym, ◌∙◌, ap}
use mathlib.Core.Bool.{Bool, true, false, ◌||◌, or_assoc, or-false}
use mathlib.Core.List.{List, [], ◌∷◌, ◌++◌}
use Prim.Native.Nat.{ℕ, zero, suc, ◌+◌, ◌≤◌, ◌<◌}
use native.Mathlib.Omega.{arith}
use native.Mathlib.Numerals.{add-one}
use borrow.Author.Tests.{ltb-true, ltb-false, lt-ltb, le-ltb}
use lib.Dec.{ltb}
use lib.ListN.{length, get_or, take, drop, take-append-drop}
use lib.Seq.{drop-cons}
use Rattle.std.proofs.lemmas.List.{drop_all}
use Rattle.cie.specs.Scales.{any_above}
use Rattle.std.proofs.Common.{fold, max, unwrap_or}
use Rattle.std.specs.List.{reduce}

pub or_left : (a b : Bool) → (a || b) ≡ false → a ≡ false
or_left true b h = h
or_left false b h = refl

pub or_right : (a b : Bool) → (a || b) ≡ false → b ≡ false
or_right true b h = let z : ◌≡◌ {A = Bool} true false = h in cc
or_right false b h = h

-- one row more
pub above_more : (limit : ℕ) (xs : List ℕ) (i : ℕ) → i < length xs → any_above limit (drop i xs) ≡ (ltb limit (get_or xs i 0) || any_above limit (drop (i + 1) xs))
unfolding any_above
above_more limit xs i h = rw (add-one, drop-cons xs i 0)

-- where no entry is above the limit, none is
pub below : (limit : ℕ) (xs : List ℕ) (k : ℕ) → any_above limit xs ≡ false → get_or xs k 0 ≤ limit
unfolding any_above
below limit [] k h = omega arith
below limit (x ∷ xs) zero h = ltb-false _ _ (or_left (ltb limit x) (any_above limit xs) h)
below limit (x ∷ xs) (suc k) h = below limit xs k (or_right (ltb limit x) (any_above limit xs) h)

pub none_above : (limit : ℕ) (xs : List ℕ) → ((k : ℕ) → k < length xs → get_or xs k 0 ≤ limit) → any_above limit xs ≡ false
unfolding any_above
none_above limit [] h = refl
none_above limit (x ∷ xs) h = rw (le-ltb limit x (h 0 (omega arith))) (none_above limit xs (λ k l. h (suc k) (omega (arith, l))))

-- a wider limit has no more above it
pub above_wider : (a b : ℕ) (xs : List ℕ) → a ≤ b → any_above a xs ≡ false → any_above b xs ≡ false
unfolding any_above
above_wider a b [] h e = refl
above_wider a b (x ∷ xs) h e =
    rw (le-ltb b x (omega (arith, ltb-false a x (or_left (ltb a x) (any_above a xs) e)))) (above_wider a b xs h (or_right (ltb a x) (any_above a xs) e))

-- of two runs of entries, either decides
pub above_append : (limit : ℕ) (xs ys : List ℕ) → any_above limit (xs ++ ys) ≡ (any_above limit xs || any_above limit ys)
unfolding any_above
above_append limit [] ys = refl
above_append limit (x ∷ xs) ys =
    ap (λ (t : Bool). ltb limit x || t) (above_append limit xs ys) ∙ sym (or_assoc (ltb limit x) (any_above limit xs) (any_above limit ys))

-- where no entry is above the limit, none of the first k is, and none after them
pub below_parts : (limit k : ℕ) (xs : List ℕ) → any_above limit xs ≡ false → (any_above limit (take k xs) ≡ false) × (any_above limit (drop k xs) ≡ false)
below_parts limit k xs h =
    let parts = sym (above_append limit (take k xs) (drop k xs)) ∙ ap (any_above limit) (take-append-drop k xs) ∙ h in
    (or_left (any_above limit (take k xs)) (any_above limit (drop k xs)) parts, or_right (any_above limit (take k xs)) (any_above limit (drop k xs)) parts)

-- the larger of two decides for both
larger_decides : (limit a b : ℕ) (t : Bool) → (ltb limit (max a b) || t) ≡ (ltb limit a || (ltb limit b || t))
larger_decides l a b t = go (ltb l a) (ltb l b) refl refl
  where
    go : (u v : Bool) → ltb l a ≡ u → ltb l b ≡ v → (ltb l (max a b) || t) ≡ (u || (v || t))
    go true v d e = rw (lt-ltb l (max a b) (omega (arith, ltb-true l a d)))
    go false true d e = rw (lt-ltb l (max a b) (omega (arith, ltb-true l b e)))
    go false false d e = rw (le-ltb l (max a b) (omega (arith, ltb-false l a d, ltb-false l b e)))

-- the largest of m and the entries: with m it decides
largest_from : (limit m : ℕ) (xs : List ℕ) → ltb limit (fold max m xs) ≡ (ltb limit m || any_above limit xs)
unfolding any_above
largest_from l m [] = sym (or-false (ltb l m))
largest_from l m (x ∷ xs) = largest_from l (max m x) xs ∙ larger_decides l m x (any_above l xs)

pub largest_decides : (limit : ℕ) (xs : List ℕ) → ltb limit (unwrap_or (reduce max xs) 0) ≡ any_above limit xs
unfolding any_above
largest_decides l [] = le-ltb l 0 (omega arith)
largest_decides l (x ∷ xs) = largest_from l x xs

-- the largest of what is passed, and the entries from the i-th on, have the largest of all
pub largest_more : (xs : List ℕ) (top i : ℕ) {m : ℕ} → i < length xs → m ≡ max top (get_or xs i 0) → fold max m (drop (i + 1) xs) ≡ fold max top (drop i xs)
largest_more xs top i h e = rw (e, add-one, drop-cons xs i 0 h) refl

pub largest_passed : (xs : List ℕ) (top i : ℕ) → length xs ≤ i → fold max top (drop i xs) ≡ fold max 0 xs → top ≡ unwrap_or (reduce max xs) 0
largest_passed xs top i h e = rw (drop_all i xs h) at e ∙ whole xs
  where
    whole : (l : List ℕ) → fold max 0 l ≡ unwrap_or (reduce max l) 0
    whole [] = refl
    whole (x ∷ l) = let z : max 0 x ≡ x = omega arith in ap (λ (n : ℕ). fold max n l) z
