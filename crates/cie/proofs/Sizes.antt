-- How large a colour's values are: all fit 32 bits, and the sums of squares under its roots fit 64. Assumes nothing.
use mathlib.Core.Path.{◌≡◌, refl}
use mathlib.Core.Bool.{Bool, true, false, cond}
use Prim.Native.Nat.{ℕ, ◌+◌, ◌*◌, ◌-◌, ◌/◌, ◌≤◌, ◌<◌}
use native.Mathlib.Omega.{arith}
use native.Mathlib.Nat.{mul-le-mul_left, le_of_mul-le-mul_right, div-le_of_le-mul, sub-le, le_trans}
use lib.Dec.{eqb}
use lib.IntN.{ℤ, pos, nat_abs, ◌-ℤ◌, ◌*ℤ◌}
use lib.Signed.{quot_z}
use Rattle.wide.specs.Roots.{square_root}
use Rattle.signed.specs.Apart.{apart}
use Rattle.wide.proofs.Greatest.{root_lt, square_root_floor}
use Rattle.wide.proofs.Scaling.{div_floor}
use Rattle.signed.proofs.Parts.{abs_parts, apart_parts, scaled_over, scaled_under, share_over, share_under}
use Rattle.cie.specs.declared.Sums.{Sums}
use Rattle.std.specs.Prelude.{Some, None}
use Rattle.cie.specs.declared.Chromaticity.{Chromaticity}
use Rattle.cie.specs.Sums.{White, AtMostTwice}
use Rattle.cie.specs.Colour.{tristimulus_scale, tristimulus_of, chromaticity_scale, xy_under, chromaticity_of, l_at, a_factor, b_factor, a_at, b_at, step_at}
use Rattle.cie.specs.Colour.{u_over, v_over, uv_under, prime_scale, prime, uv_factor, coordinate, u_of, v_of, square, squares, chroma, colour_of}
use Rattle.cie.specs.Sizes.{Sized}
use Rattle.cie.proofs.Lengths.{square_le, squares_le}
use Rattle.cie.proofs.Steps.{step_size, lightness_size}
use Rattle.cie.proofs.Whites.{above_zero, white_x, white_y, white_z, white_x_even, white_z_even}

-- ── the pieces, over plain numbers ──

-- "1,000,000 × X (or Y) / (X+Y+Z)"
ratio_size : (N D : ℕ) → N ≤ D → chromaticity_scale * N / D ≤ chromaticity_scale
ratio_size N D h = div-le_of_le-mul D (omega arith)

-- u' or v': 4 X and 9 Y are at most four times X + 15 Y + 3 Z
pub prime_size : (A S : ℕ) → A ≤ 4 * S → prime A S ≤ 40000000
prime_size A S h = div-le_of_le-mul S (omega arith)

-- a or b, by the steps' size
scaled_size : (k a b n : ℕ) → a ≤ n → b ≤ n → nat_abs (pos k *ℤ (pos a -ℤ pos b)) ≤ k * n
scaled_size k a b n p q =
    rw (abs_parts, scaled_over, scaled_under)
    (omega (arith, mul-le-mul_left k (le_trans (sub-le a b) p), mul-le-mul_left k (le_trans (sub-le b a) q)))

-- u or v, where 13 × u' or v', of the sample and of the white, is at most f
coordinate_size : (L A S B W f : ℕ) → 0 < W → uv_factor * A ≤ f * S → uv_factor * B ≤ f * W → nat_abs (coordinate L A S B W) ≤ f * L
unfolding coordinate
coordinate_size L A S B W f hW hA hB = go (eqb S 0) refl
  where
    prime_size : (A S : ℕ) → 0 < S → uv_factor * A ≤ f * S → uv_factor * prime A S ≤ f * prime_scale
    prime_size A S d h = le_of_mul-le-mul_right {m = uv_factor * prime A S} {n = f * prime_scale} {k = S} (omega (arith, (div_floor (prime_scale * A) S d).0)) d

    share_size : (a b : ℕ) → uv_factor * a ≤ f * prime_scale → uv_factor * L * (a - b) / prime_scale ≤ f * L
    share_size a b h = div-le_of_le-mul prime_scale (omega (arith, mul-le-mul_left (uv_factor * L) (sub-le a b), mul-le-mul_left L h))

    go : (b : Bool) → eqb S 0 ≡ b → nat_abs (cond b (pos 0) (quot_z (pos (uv_factor * L) *ℤ (pos (prime A S) -ℤ pos (prime B W))) (pos prime_scale))) ≤ f * L
    go true e = omega arith
    go false e =
        rw (abs_parts, share_over, share_under)
        (omega (arith, share_size (prime A S) (prime B W) (prime_size A S (above_zero S e) hA), share_size (prime B W) (prime A S) (prime_size B W hW hB)))

pub apart_size : (x y : ℤ) → apart x y ≤ nat_abs x + nat_abs y
apart_size x y = omega (arith, apart_parts x y, abs_parts x, abs_parts y)

root_size : (m n : ℕ) → m < square n → square_root m < n
root_size m n h = root_lt (square_root m) n (omega (arith, (square_root_floor m).0))

-- ── the values of a colour ──

module _ {w s : Sums} (W : White w) (S : AtMostTwice w s) where
  tristimulus_x_size : tristimulus_scale * s.x / w.y ≤ 20000000
  tristimulus_x_size = div-le_of_le-mul w.y (omega (arith, white_x_even W))

  tristimulus_y_size : tristimulus_scale * s.y / w.y ≤ 2000000
  tristimulus_y_size = div-le_of_le-mul w.y (omega arith)

  tristimulus_z_size : tristimulus_scale * s.z / w.y ≤ 20000000
  tristimulus_z_size = div-le_of_le-mul w.y (omega (arith, white_z_even W))

  pub l_size : l_at 1 w s ≤ 1301508
  l_size = lightness_size s.y w.y (white_y W) S.y

  pub a_size : nat_abs (a_at 1 w s) ≤ 6299605
  unfolding a_at
  a_size = scaled_size a_factor (step_at 1 s.x w.x) (step_at 1 s.y w.y) 1259921
      (step_size s.x w.x (white_x W) S.x) (step_size s.y w.y (white_y W) S.y)

  pub b_size : nat_abs (b_at 1 w s) ≤ 2519842
  unfolding b_at
  b_size = scaled_size b_factor (step_at 1 s.y w.y) (step_at 1 s.z w.z) 1259921
      (step_size s.y w.y (white_y W) S.y) (step_size s.z w.z (white_z W) S.z)

  -- 13 × 4 X ≤ 52 × (X + 15 Y + 3 Z)
  pub u_size : nat_abs (u_of w s) ≤ 67678416
  unfolding u_of
  u_size = omega (
    arith,
    l_size,
    coordinate_size (l_at 1 w s) (u_over s) (uv_under s) (u_over w) (uv_under w) 52 (omega (arith, white_y W)) (omega arith) (omega arith),
  )

  -- 13 × 9 Y ≤ 8 × (X + 15 Y + 3 Z)
  pub v_size : nat_abs (v_of w s) ≤ 10412064
  unfolding v_of
  v_size = omega (
    arith,
    l_size,
    coordinate_size (l_at 1 w s) (v_over s) (uv_under s) (v_over w) (uv_under w) 8 (omega (arith, white_y W)) (omega arith) (omega arith),
  )

-- ── lengths: the sum of squares is below n², so below 2^64, and its root is below n ──

module _ (p q : ℤ) where
  cab_squares : nat_abs p ≤ 6299605 → nat_abs q ≤ 2519842 → square (nat_abs p) + square (nat_abs q) < square 6800000
  cab_squares h k = omega (arith, square_le h, square_le k)

  cab_size : nat_abs p ≤ 6299605 → nat_abs q ≤ 2519842 → chroma p q < 6800000
  unfolding chroma
  cab_size h k = root_size _ 6800000 (cab_squares h k)

  cuv_squares : nat_abs p ≤ 67678416 → nat_abs q ≤ 10412064 → square (nat_abs p) + square (nat_abs q) < square 68500000
  cuv_squares h k = omega (arith, square_le h, square_le k)

  cuv_size : nat_abs p ≤ 67678416 → nat_abs q ≤ 10412064 → chroma p q < 68500000
  unfolding chroma
  cuv_size h k = root_size _ 68500000 (cuv_squares h k)

pub luv_squares : (x y z : ℕ) → x ≤ 1301508 → y ≤ 135356832 → z ≤ 20824128 → squares x y z < square 137000000
luv_squares x y z h k l = omega (arith, squares_le h k l)

-- ── a whole colour ──

chromaticity_size : (s : Sums) (c : Chromaticity) → chromaticity_of s ≡ Some c → (c.x ≤ 1000000) × (c.y ≤ 1000000)
unfolding chromaticity_of
chromaticity_size s c = go (eqb (xy_under s) 0)
  where
    p : ℕ
    p = chromaticity_scale * s.x / xy_under s

    q : ℕ
    q = chromaticity_scale * s.y / xy_under s

    go : (b : Bool) → cond b None (Some (record { x = p; y = q })) ≡ Some c → (c.x ≤ 1000000) × (c.y ≤ 1000000)
    go true e = let z : ◌≡◌ {A = ℕ} 0 1 = cc in omega arith
    go false e =
        let f : p ≡ c.x = cc in
        let g : q ≡ c.y = cc in
        omega (arith, ratio_size s.x (xy_under s) (omega arith), ratio_size s.y (xy_under s) (omega arith))

pub colour_sized : {w s : Sums} → White w → AtMostTwice w s → Sized (colour_of w s)
unfolding colour_of tristimulus_of
colour_sized {w} {s} W S =
    record {
      tristimulus_x = tristimulus_x_size W S;
      tristimulus_y = tristimulus_y_size W S;
      tristimulus_z = tristimulus_z_size W S;
      chromaticity = chromaticity_size s;
      l = l_size W S;
      a = a_size W S;
      b = b_size W S;
      u = u_size W S;
      v = v_size W S;
      cab = cab_size (a_at 1 w s) (b_at 1 w s) (a_size W S) (b_size W S);
      cuv = cuv_size (u_of w s) (v_of w s) (u_size W S) (v_size W S);
    }
