-- Fractions of sums: what two words hold of them, and the ratios as a program takes them. Assumes nothing.
use mathlib.Core.Path.{◌≡◌, sym, ap}
use mathlib.Core.Bool.{Bool, true, false}
use Prim.Native.Nat.{ℕ, ◌+◌, ◌*◌, ◌/◌, ◌^◌, ◌≤◌, ◌<◌}
use native.Mathlib.Nat.{mul-le-mul_left, mul-le-mul_right, le_of_lt, zero-add}
use native.Mathlib.Omega.{arith}
use borrow.Author.Tests.{ne_eqb}
use lib.Dec.{eqb}
use Rattle.cie.specs.declared.Sums.{Sums}
use Rattle.std.specs.Prelude.{Some, None}
use Rattle.cie.specs.Colour.{tristimulus_scale, tristimulus_of, chromaticity_scale, xy_under, chromaticity_of, prime_scale}

-- ── numbers of two digits in a base P ──

-- a few times the base, and a few times more, is below its square
pub sum_fits : (P k m a b : ℕ) → a ≤ k * P → b ≤ m * P → k + m < P → a + b < P * P
sum_fits P k m a b h i j = omega (arith, mul-le-mul_right P j)

pub product_few : (P k n v : ℕ) → v ≡ k * n → n < P → v ≤ k * P
product_few P k n v e h = rw e (mul-le-mul_left k (le_of_lt h))

pub sum_few : (P k m a b v : ℕ) → v ≡ a + b → a ≤ k * P → b ≤ m * P → v ≤ (k + m) * P
sum_few P k m a b v e h i = omega arith

pub high_not_zero : (P h l : ℕ) → 0 < P → (h ≡ 0 → ⊥) → false ≡ eqb (h * P + l) 0
high_not_zero P h l p ne =
    let n : 1 ≤ h = omega arith in
    sym (ne_eqb (h * P + l) 0 (λ e. omega (arith, mul-le-mul_right P n)))

pub low_zero : (P h l : ℕ) → h ≡ 0 → eqb l 0 ≡ eqb (h * P + l) 0
low_zero P h l e = let s : h * P + l ≡ l = omega (arith, ap (λ (x : ℕ). x * P) e) in rw s

-- ── the ratios ──

-- where d is X + 15 Y + 3 Z, 4 X and 9 Y are at most four times it
pub primes_fit : (x y z d : ℕ) → x < 2 ^ 64 → y < 2 ^ 64 → z < 2 ^ 64 → d ≡ x + 15 * y + 3 * z →
    (d < 2 ^ 80) × (4 * x ≤ 4 * d) × (9 * y ≤ 4 * d)
primes_fit x y z d hx hy hz e = omega arith

-- and so their ratios to it at the scale of u' and v' are small
pub prime_small : (k n d : ℕ) → 0 < d → k * n ≤ 4 * d → prime_scale * k * n < 2 ^ 26 * d
prime_small k n d p h = omega arith

pub tristimulus_is : (w s : Sums) (yn x y z : ℕ) → yn ≡ 0 + w.y →
    x ≡ tristimulus_scale * s.x / yn → y ≡ tristimulus_scale * s.y / yn → z ≡ tristimulus_scale * s.z / yn →
    record { x = x; y = y; z = z } ≡ tristimulus_of w s
unfolding tristimulus_of
tristimulus_is w s yn x y z d e f g = rw (e, f, g, d, zero-add)

module _ (s : Sums) (d : ℕ) (e : d ≡ xy_under s) (b : Bool) (t : b ≡ eqb d 0) where
  pub no_chromaticity : b ≡ true → None ≡ chromaticity_of s
  unfolding chromaticity_of
  no_chromaticity h = rw (← e, ← t, h)

  pub chromaticity_is : b ≡ false → (x y : ℕ) → x ≡ chromaticity_scale * s.x / d → y ≡ chromaticity_scale * s.y / d → Some (record { x = x; y = y }) ≡ chromaticity_of s
  unfolding chromaticity_of
  chromaticity_is h x y f g = rw (← e, ← t, h, f, g)
