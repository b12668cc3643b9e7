-- The coordinates of a colour and the chroma of a pair, as a program takes them. Assumes nothing.
use mathlib.Core.Path.{◌≡◌, sym, ap, ◌∙◌}
use mathlib.Core.Bool.{Bool, true, false}
use Prim.Native.Nat.{ℕ, ◌+◌, ◌*◌, ◌^◌, ◌≤◌, ◌<◌}
use native.Mathlib.Nat.{mul-le-mul}
use native.Mathlib.Omega.{arith}
use lib.Dec.{eqb}
use lib.IntN.{ℤ, pos, nat_abs, ◌-ℤ◌, ◌*ℤ◌}
use lib.Signed.{quot_z, mag}
use Rattle.wide.specs.Roots.{square_root}
use Rattle.signed.proofs.Passed.{passed, survives}
use Rattle.cie.specs.Colour.{prime, prime_scale, uv_factor, coordinate, chroma}
use Rattle.cie.proofs.Whites.{above_zero}

-- ── a and b ──

pub multiple_is : (k x y m n : ℕ) (p : ℤ) → x ≡ m → y ≡ n → p ≡ pos k *ℤ (pos x -ℤ pos y) → p ≡ pos k *ℤ (pos m -ℤ pos n)
multiple_is k x y m n p e f h = rw (← e, ← f) h

-- ── u and v ──

-- l and u under other names, by which their sizes are known
pub share_fits : (l L u U : ℕ) → l ≡ L → u ≡ U → L ≤ 1301508 → U ≤ 40000000 → uv_factor * l * u < 2 ^ 31 * prime_scale
share_fits l L u U e f h k = rw (e, f) (omega (arith, mul-le-mul h k))

-- t says whether the divisor S, which the program has as d, is 0
module _ (S d : ℕ) (e : d ≡ S) (t : Bool) (z : t ≡ eqb d 0) where
  pub divides : t ≡ false → 0 < S
  divides h = above_zero S (rw e at (sym z ∙ h))

  pub no_coordinate : t ≡ true → (L A B W : ℕ) → pos 0 ≡ coordinate L A S B W
  unfolding coordinate
  no_coordinate h L A B W = rw (← e, ← z, h)

  pub coordinate_is : t ≡ false → (L A B W l x y : ℕ) (p : ℤ) → l ≡ L → x ≡ prime A S → y ≡ prime B W →
      p ≡ quot_z (pos (uv_factor * l) *ℤ (pos x -ℤ pos y)) (pos prime_scale) → p ≡ coordinate L A S B W
  unfolding coordinate
  coordinate_is h L A B W l x y p f g i q = q ∙ rw (f, g, i, ← e, ← z, h)

-- ── chroma ──

-- x is the size of p, which fits 32 bits, as a program takes it
size_is : (p : ℤ) (x : ℕ) → mag p < 2 ^ 31 → x ≡ nat_abs (passed p) → x ≡ nat_abs p
size_is p x h e = e ∙ ap nat_abs (survives {z = p} h)

pub chroma_is : (p q : ℤ) (x y : ℕ) → mag p < 2 ^ 31 → mag q < 2 ^ 31 → x ≡ nat_abs (passed p) → y ≡ nat_abs (passed q) →
    (r : ℕ) → r ≡ square_root (x * x + y * y) → r ≡ chroma p q
unfolding chroma
chroma_is p q x y h k e f r i = rw (← size_is p x h e, ← size_is q y k f) i
