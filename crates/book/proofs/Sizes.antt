-- Sizes of a book's parts: rows and shades are few, so no length is large, and each body is within the book. Assumes nothing.
use mathlib.Core.Path.{◌≡◌, ap}
use Prim.Native.Nat.{ℕ, suc, ◌+◌, ◌*◌, ◌≤◌, ◌<◌}
use native.Mathlib.Omega.{arith}
use native.Mathlib.Nat.{mul-le-mul, mul-le-mul_left}
use Rattle.cie.specs.Spacing.{most_rows}
use Rattle.book.specs.Book.{body_length, most_shades, bodies_at, total}

pub total_small : (rows n : ℕ) → rows ≤ most_rows → n ≤ most_shades → total rows n ≤ total most_rows most_shades
total_small rows n h k = omega (arith, mul-le-mul {n₂ = most_rows} {m₂ = most_shades} h k)

-- the i-th of n bodies; b is the body length that the code has
module _ (rows i n : ℕ) (h : i < n) where
  pub readings_within : rows * i + rows ≤ rows * n
  readings_within = omega (arith, mul-le-mul_left {m = i + 1} {n = n} rows (omega arith))

  pub body_within : {b : ℕ} → b ≡ body_length rows → bodies_at n + b * i + b ≤ total rows n
  body_within q = omega (arith, readings_within, ap (λ (k : ℕ). k * i) q)

-- one body less
pub body_less : (rows at m : ℕ) {left end b : ℕ} → b ≡ body_length rows → left ≡ suc m → at + body_length rows * left ≡ end
    → at + b + body_length rows * m ≡ end
body_less rows at m q more e = omega (arith, ap (λ (k : ℕ). rows * k) more)
