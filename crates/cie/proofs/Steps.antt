-- f, the step and the lightness: how they grow with the scale, and how large they are where N ≤ 2 D. Assumes nothing.
use mathlib.Core.Path.{◌≡◌, refl}
use mathlib.Core.Bool.{Bool, true, false}
use Prim.Native.Nat.{ℕ, suc, ◌+◌, ◌*◌, ◌/◌, ◌≤◌, ◌<◌}
use native.Mathlib.Omega.{arith}
use native.Mathlib.Nat.{mul_assoc, add-sub_cancel, mul-le-mul_left, mul-lt-mul_of_pos_right, le_of_suc-le-suc}
use native.Mathlib.Nat.{mul-div-mul_left, add-mul-div_right, div-lt_iff_lt-mul, le-div_iff_mul-le}
use lib.Dec.{lit<}
use borrow.Author.Tests.{ltb-true, ltb-false}
use Rattle.wide.specs.Roots.{cube_root}
use Rattle.wide.proofs.Greatest.{cube_lt, cube_root_floor, cube_root_above}
use Rattle.wide.proofs.Scaling.{Scales, cube_root_scales, div_scales, sub_scales}
use Rattle.cie.specs.Colour.{limit_over, limit_under, bright, offset, gain, straight_over, straight_under, f_at}
use Rattle.cie.specs.Colour.{step_scale, step_at, lightness_scale, lightness_at}

-- ── the limit ──

-- it is (24/116)³
pub limit_is : limit_over * (gain * gain * gain) ≡ limit_under * (24 * 24 * 24)
limit_is = refl

-- and there the straight piece is 24/116, as the cube root is
pub limit_meets : gain * straight_over limit_over limit_under ≡ 24 * straight_under limit_under
limit_meets = refl

-- ── scales ──

f_scales : (M K N D : ℕ) → 1 ≤ M → 0 < D → Scales M (f_at K N D) (f_at (M * K) N D)
f_scales M K N D m d = go (bright N D) refl
  where
    go : (b : Bool) → bright N D ≡ b → Scales M (f_at K N D) (f_at (M * K) N D)
    go true e = rw e (cube_root_scales M K N D m d)
    go false e = rw (e, mul_assoc M K (straight_over N D)) (div_scales M (K * straight_over N D) (straight_under D) m (omega arith))

pub step_scales : (M N D : ℕ) → 1 ≤ M → 0 < D → Scales M (step_at 1 N D) (step_at M N D)
unfolding step_at
step_scales M N D m d = f_scales M step_scale N D m d

pub lightness_scales : (M N D : ℕ) → 1 ≤ M → 0 < D → Scales M (lightness_at 1 N D) (lightness_at M N D)
unfolding lightness_at
lightness_scales M N D m d =
    sub_scales M (f_at (lightness_scale * gain) N D) (f_at (M * (lightness_scale * gain)) N D) (lightness_scale * offset) m
    (f_scales M (lightness_scale * gain) N D m d)

-- ── lightness on either side ──

-- 116 × f is at least 16: the subtraction in `lightness_at` loses nothing
pub no_loss : (M N D : ℕ) → 0 < D → M * (lightness_scale * offset) ≤ f_at (M * (lightness_scale * gain)) N D
no_loss M N D d = go (bright N D) refl
  where
    K : ℕ
    K = M * (lightness_scale * gain)

    go : (b : Bool) → bright N D ≡ b → M * (lightness_scale * offset) ≤ f_at K N D
    go true e =
        rw e (cube_root_above K N D (M * (lightness_scale * offset)) d
        (omega (arith, mul-le-mul_left (M * M * M) (ltb-true (limit_over * D) (limit_under * N) e))))
    go false e = rw e ((le-div_iff_mul-le {k = straight_under D} {x = M * (lightness_scale * offset)} {y = K * straight_over N D} (omega arith)).1 (omega arith))

-- at and below the limit L* is 24389/27 × Y/Yn
pub lightness_low : (M N D : ℕ) → 0 < D → bright N D ≡ false → lightness_at M N D ≡ M * lightness_scale * 24389 * N / (27 * D)
unfolding lightness_at
lightness_low M N D d e =
    rw (e, over, under, mul-div-mul_left {m = 4 * gain} (low + off * (27 * D)) (27 * D) (lit< tt), add-mul-div_right low off {z = 27 * D} (omega arith))
    (add-sub_cancel (low / (27 * D)) off)
  where
    low : ℕ
    low = M * lightness_scale * 24389 * N

    off : ℕ
    off = M * (lightness_scale * offset)

    over : M * (lightness_scale * gain) * straight_over N D ≡ 4 * gain * (low + off * (27 * D))
    over = omega arith

    under : straight_under D ≡ 4 * gain * (27 * D)
    under = omega arith

-- ── sizes ──

-- K times the cube root of 2 is below m + 1
f_size : (K N D m : ℕ) → 0 < D → N ≤ 2 * D → 2 * (K * K * K) < suc m * suc m * suc m → f_at K N D ≤ m
f_size K N D m d h l = go (bright N D) refl
  where
    go : (b : Bool) → bright N D ≡ b → f_at K N D ≤ m
    go true e =
        rw e (le_of_suc-le-suc (cube_lt (cube_root K N D) (suc m) D
        (omega (arith, (cube_root_floor K N D d).0, mul-le-mul_left (K * K * K) h, mul-lt-mul_of_pos_right l d))))
    go false e =
        rw e (le_of_suc-le-suc ((div-lt_iff_lt-mul {k = straight_under D} {x = K * straight_over N D} {y = suc m} (omega arith)).1
        (omega (arith, mul-le-mul_left K (ltb-false (limit_over * D) (limit_under * N) e), mul-lt-mul_of_pos_right (cube_lt K (suc m) 1 (omega arith)) d))))

pub step_size : (N D : ℕ) → 0 < D → N ≤ 2 * D → step_at 1 N D ≤ 1259921
unfolding step_at
step_size N D d h = f_size step_scale N D 1259921 d h (lit< tt)

pub lightness_size : (N D : ℕ) → 0 < D → N ≤ 2 * D → lightness_at 1 N D ≤ 1301508
unfolding lightness_at
lightness_size N D d h = omega (arith, f_size (lightness_scale * gain) N D 1461508 d h (lit< tt))
