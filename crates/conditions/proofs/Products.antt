-- Laws of weights: a row of them, how many there are, and how large they get. Assumes nothing.
use mathlib.Core.Path.{◌≡◌, refl, sym, ap}
use mathlib.Core.Bool.{false}
use mathlib.Core.List.{List, [], ◌∷◌}
use Prim.Native.Nat.{ℕ, zero, suc, ◌+◌, ◌-◌, ◌*◌, ◌≤◌, ◌<◌}
use native.Mathlib.Omega.{arith}
use native.Mathlib.Nat.{mul-le-mul, not-suc-le-zero, le_of_suc-le-suc}
use native.Mathlib.Numerals.{add-one}
use borrow.Author.Tests.{le-ltb}
use lib.Dec.{ltb}
use lib.ListN.{length, get_or, replicate}
use Rattle.cie.specs.Spacing.{most_rows, filled}
use Rattle.cie.specs.Scales.{any_above}
use Rattle.cie.proofs.Scales.{or_right, below, above_append}
use Rattle.conditions.specs.Weights.{products_of, weights_of}

pub products_length : (is cs : List ℕ) → length cs ≡ length is → length (products_of is cs) ≡ length is
unfolding products_of
products_length [] cs h = refl
products_length (i ∷ is) [] h = let z : length is + 1 ≡ 0 = rw add-one (sym h) in omega arith
products_length (i ∷ is) (c ∷ cs) h = ap suc (products_length is cs (omega arith))

pub products_short : (is cs : List ℕ) → length (products_of is cs) ≤ length is
unfolding products_of
products_short [] cs = omega arith
products_short (i ∷ is) [] = omega arith
products_short (i ∷ is) (c ∷ cs) = omega (arith, products_short is cs)

pub products_at : (is cs : List ℕ) (k : ℕ) → k < length is → k < length cs → get_or (products_of is cs) k 0 ≡ get_or is k 0 * get_or cs k 0
unfolding products_of
products_at [] cs k h j = absurd (not-suc-le-zero h)
products_at (i ∷ is) [] k h j = absurd (not-suc-le-zero j)
products_at (i ∷ is) (c ∷ cs) zero h j = refl
products_at (i ∷ is) (c ∷ cs) (suc k) h j = products_at is cs k (le_of_suc-le-suc h) (le_of_suc-le-suc j)

-- the products are within the product of the limits, and so are zeros
products_below : (a b : ℕ) (is cs : List ℕ) → any_above a is ≡ false → any_above b cs ≡ false → any_above (a * b) (products_of is cs) ≡ false
unfolding products_of any_above
products_below a b [] cs h k = refl
products_below a b (i ∷ is) [] h k = refl
products_below a b (i ∷ is) (c ∷ cs) h k =
    rw (le-ltb (a * b) (i * c) (mul-le-mul (below a (i ∷ is) 0 h) (below b (c ∷ cs) 0 k)))
    (products_below a b is cs (or_right (ltb a i) (any_above a is) h) (or_right (ltb b c) (any_above b cs) k))

zeros_below : (limit n : ℕ) → any_above limit (replicate n 0) ≡ false
unfolding any_above
zeros_below limit zero = refl
zeros_below limit (suc n) = rw (le-ltb limit 0 (omega arith)) (zeros_below limit n)

pub weights_below : (a b : ℕ) (is cs : List ℕ) → any_above a is ≡ false → any_above b cs ≡ false → any_above (a * b) (weights_of is cs) ≡ false
unfolding weights_of filled
weights_below a b is cs h k =
    let n : ℕ = most_rows - length (products_of is cs) in
    rw (above_append (a * b) (products_of is cs) (replicate n 0), products_below a b is cs h k, zeros_below (a * b) n)
