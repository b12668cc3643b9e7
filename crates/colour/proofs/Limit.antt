-- f of n / d on each side of the limit, as a program takes it. Assumes nothing.
use mathlib.Core.Path.{◌≡◌, refl, sym, ◌∙◌}
use mathlib.Core.Bool.{Bool, true, false, not}
use Prim.Native.Nat.{ℕ, ◌+◌, ◌*◌, ◌/◌, ◌^◌, ◌≤◌, ◌<◌}
use native.Mathlib.Nat.{mul-le-mul, mul-le-mul_left, mul-le-mul_right}
use native.Mathlib.Omega.{arith}
use borrow.Author.Tests.{ltb-true, ltb-false, le-leb, lt-leb, not-true, not-false}
use lib.Dec.{leb, ltb}
use Rattle.wide.specs.Roots.{cube_root}
use Rattle.wide.proofs.Greatest.{cubes}
use Rattle.cie.specs.Colour.{limit_over, limit_under, bright, slope_over, slope_under, offset, gain, straight_over, straight_under, straight_at, f_at, lightness_scale}

-- ── the limit ──

le_not_lt : (a b : ℕ) → leb a b ≡ not (ltb b a)
le_not_lt a b = go (ltb b a) refl
  where
    go : (t : Bool) → ltb b a ≡ t → leb a b ≡ not t
    go true e = lt-leb a b (ltb-true b a e)
    go false e = le-leb a b (ltb-false b a e)

pub dim_is : (n d a b : ℕ) (t : Bool) → a ≡ limit_under * n → b ≡ limit_over * d → t ≡ leb a b → t ≡ not (bright n d)
dim_is n d a b t e f h = h ∙ rw (e, f) (le_not_lt (limit_under * n) (limit_over * d))

-- ── the straight piece at a scale k, by its two products, their sum and its divisor ──

module _ (k n d a b over under : ℕ) (e : a ≡ k * (slope_over * gain) * n) (f : b ≡ k * (offset * slope_under) * d)
    (g : over ≡ a + b) (h : under ≡ straight_under d) where
  pub straight_fits : d < 2 ^ 64 → k ≤ lightness_scale * gain → 0 < d → bright n d ≡ false → (under < 2 ^ 102) × (over < 2 ^ 26 * under)
  straight_fits w small p dim = omega (arith, mul-le-mul_left k (ltb-false (limit_over * d) (limit_under * n) dim), mul-le-mul_right d small)

  pub straight_is : (r : ℕ) → r ≡ over / under → r ≡ straight_at k n d
  straight_is r q =
      let i : over ≡ k * straight_over n d = omega arith in
      rw (← i, ← h) q

-- ── the cube root at a scale k ──

pub root_fits : (k n d : ℕ) → k ≤ lightness_scale * gain → 0 < d → n ≤ 2 * d → (k ≤ 2 ^ 21) × (k * k * k * n < 2 ^ 63 * d)
root_fits k n d small p h = (omega arith, omega (arith, mul-le-mul (cubes k (lightness_scale * gain) small).1 h))

-- ── the two sides, where t says that n / d is at most the limit ──

module _ (k n d : ℕ) (t : Bool) (e : t ≡ not (bright n d)) where
  pub is_dim : t ≡ true → bright n d ≡ false
  is_dim h = not-true (bright n d) (sym e ∙ h)

  pub f_dim : t ≡ true → (r : ℕ) → r ≡ straight_at k n d → r ≡ f_at k n d
  f_dim h r q = rw (is_dim h) q

  pub f_bright : t ≡ false → (r : ℕ) → r ≡ cube_root k n d → r ≡ f_at k n d
  f_bright h r q = rw (not-false (bright n d) (sym e ∙ h)) q
