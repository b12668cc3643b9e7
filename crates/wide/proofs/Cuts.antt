-- A quotient of k × n by d from n and d cut by p: it is never too large, and right where its remainder leaves room. Assumes nothing.
use Rattle.std.proofs.Common.{◌≡◌, ℕ, ◌+◌, ◌*◌, ◌/◌, ◌%◌, ◌^◌, ◌<◌, ◌≤◌, sym, ap, le_of_lt, mul-le-mul_right, mod-lt, lt_of_mul-lt-mul_right, mul-le-mul_left, div-add-mod', arith}
use native.Mathlib.Nat.{div-eq_of_lt-le}
use Rattle.wide.proofs.Scaling.{div_floor}

-- c is n / p, down
record Cut (n p c : ℕ) : Type 0 where
  pub above : c * p ≤ n
  pub below : n < (c + 1) * p

cut_of : (n p : ℕ) → 0 < p → Cut n p (n / p)
cut_of n p z = let f = div_floor n p z in record { above = f.0; below = omega (arith, f.1) }

-- k × (n / p) is at most n, where k ≤ p
pub product_le : (k p n : ℕ) → 0 < p → k ≤ p → k * (n / p) ≤ n
product_le k p n z h = omega (arith, mul-le-mul_right (n / p) h, (div_floor n p z).0)

module _ (k q r : ℕ) {n d p c u : ℕ} (s : Cut d p c) (t : Cut n p u) (m : q * (c + 1) + r ≡ k * u) where
  -- q is not too large
  low : q * d ≤ k * n
  low = omega (arith, mul-le-mul_left q (le_of_lt s.below), ap (λ (x : ℕ). x * p) m, mul-le-mul_left k t.above)

  -- nor too small, where the remainder leaves room
  high : 0 < p → q + r + k + 1 < c + 1 → k * n < (q + 1) * d
  high z h = omega (arith, mul-le-mul_left k (le_of_lt t.below), ap (λ (x : ℕ). x * p) m, mul-le-mul_right p h, mul-le-mul_left (q + 1) s.above)

-- q with its remainder r, by e
pub record Near (k n d e q r : ℕ) : Type 0 where
  pub small : q < 2 ^ 26
  pub rest : r < e
  pub right : q + r + k + 1 < e → q ≡ k * n / d

pub near : (p k n d : ℕ) → 0 < p → k * n < 2 ^ 26 * d → Near k n d (d / p + 1) (k * (n / p) / (d / p + 1)) (k * (n / p) % (d / p + 1))
near p k n d z h =
    let m : ℕ = k * (n / p) in
    let e : ℕ = d / p + 1 in
    let l : m / e * d ≤ k * n = low k (m / e) (m % e) (cut_of d p z) (cut_of n p z) (div-add-mod' m e) in
    record {
      small = lt_of_mul-lt-mul_right d {m = m / e} {n = 2 ^ 26} (omega (arith, l));
      rest = mod-lt m {m = e} (omega arith);
      right = λ room. sym (div-eq_of_lt-le d l (high k (m / e) (m % e) (cut_of d p z) (cut_of n p z) (div-add-mod' m e) z room));
    }
