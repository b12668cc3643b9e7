-- Roots rounded down: "down" is the largest whole number not above. Assumes nothing.
use Rattle.std.specs.Prelude.{◌≡◌, ◌⊎◌, ◌<◌, ℕ, zero, suc, ◌+◌, ◌*◌, ◌/◌, Bool, true, false, not, ◌&&◌, T, nat_le}

-- r passes the test t, and the next number does not
pub record Last (t : ℕ → Bool) (r : ℕ) : Type 0 where
  pub passes : T (t r)
  pub stops : T (not (t (suc r)))

-- r is such a number below `top`, where `told x b` says that a test told b of x; that 0 passes and `top` does not need not be told
pub record LastTold (told : ℕ → Bool → Type 0) (top r : ℕ) : Type 0 where
  pub below : r < top
  pub passes : (r ≡ 0) ⊎ told r true
  pub stops : (suc r ≡ top) ⊎ told (suc r) false

-- whether r is such a number
abbrev pub is_last : (ℕ → Bool) → ℕ → Bool
is_last t r = t r && not (t (r + 1))

-- the greatest number that passes t, given q, the greatest whose double passes
unfoldable pub next_bit : (ℕ → Bool) → ℕ → ℕ
next_bit t q = elim (t (2 * q + 1)) [ true ↦ 2 * q + 1 | false ↦ 2 * q ]

-- the greatest number up to `top` that passes t, one binary digit for each unit of fuel that is used
unfoldable pub climb : ℕ → (ℕ → Bool) → ℕ → ℕ
climb zero t top = 0
climb (suc fuel) t top = elim (nat_le 1 top) [ true ↦ next_bit t (climb fuel (λ p. t (2 * p)) (top / 2)) | false ↦ 0 ]

-- the greatest number that passes t, where 0 passes and none above `top` does
unfoldable pub greatest : (ℕ → Bool) → ℕ → ℕ
greatest t top = climb top t top

-- q is at most n / d
abbrev pub quotient_below : (n d : ℕ) → ℕ → Bool
quotient_below n d q = nat_le (q * d) n

-- p is at most the square root of n
abbrev pub square_below : ℕ → ℕ → Bool
square_below n p = nat_le (p * p) n

-- p is at most the cube root of aim / d, "decided by comparing cubes"
abbrev pub cube_below : (d aim : ℕ) → ℕ → Bool
cube_below d aim p = nat_le (p * p * p * d) aim

-- the square root of n, down
unfoldable pub square_root : ℕ → ℕ
square_root n = greatest (square_below n) n

-- K times the cube root of N / D, down: p is at most that when p³ D ≤ K³ N
unfoldable pub cube_root : ℕ → ℕ → ℕ → ℕ
cube_root K N D = greatest (cube_below D (K * K * K * N)) (K * suc (N / D))
