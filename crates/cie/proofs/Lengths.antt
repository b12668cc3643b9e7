-- Lengths in three coordinates, over whole numbers: the order of squares, Cauchy's inequality and the triangle inequality. Assumes nothing.
use Prim.Native.Nat.{ℕ, ◌+◌, ◌*◌, ◌≤◌}
use native.Mathlib.Omega.{arith}
use native.Mathlib.Nat.{mul-le-mul, le_dest}
use native.Mathlib.Decide.{dec_le}
use Rattle.wide.proofs.Greatest.{root_le}
use Rattle.cie.specs.Colour.{square, squares}

pub square_le : {a b : ℕ} → a ≤ b → square a ≤ square b
square_le h = mul-le-mul h h

pub squares_le : {a b c x y z : ℕ} → a ≤ x → b ≤ y → c ≤ z → squares a b c ≤ squares x y z
squares_le p q r = omega (arith, square_le p, square_le q, square_le r)

pub am_gm : (m n : ℕ) → 2 * (m * n) ≤ square m + square n
am_gm m n = elim (dec_le m n) [ yes h ↦ ordered m n h | no h ↦ omega (arith, ordered n m (omega arith)) ]
  where
    grow : (m k : ℕ) → 2 * (m * (m + k)) ≤ square m + square (m + k)
    grow m k = omega arith

    ordered : (m n : ℕ) → m ≤ n → 2 * (m * n) ≤ square m + square n
    ordered m n h = rw (le_dest h).1 at (grow m (le_dest h).0)

pub cauchy : (a b c x y z : ℕ) → square (a * x + b * y + c * z) ≤ squares a b c * squares x y z
cauchy a b c x y z = omega (arith, am_gm (a * y) (b * x), am_gm (a * z) (c * x), am_gm (b * z) (c * y))

-- a side (x, y, z) of length at most R and a side (a, b, c) of length at most G; what the second falls short of G is kept
pub triangle : (x y z a b c R G : ℕ) → squares x y z ≤ square R → squares a b c ≤ square G →
    squares (x + a) (y + b) (z + c) + square G ≤ square (R + G) + squares a b c
triangle x y z a b c R G h k =
    let s : a * x + b * y + c * z ≤ R * G = root_le (a * x + b * y + c * z) (R * G) (omega (arith, cauchy a b c x y z, mul-le-mul k h)) in
    omega arith
