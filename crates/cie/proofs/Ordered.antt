-- Spectra in order have sums in order, and these have colours in order. Assumes nothing.
use mathlib.Core.Path.{◌≡◌, refl}
use mathlib.Core.Bool.{Bool, true, false}
use mathlib.Core.List.{List, [], ◌∷◌}
use Prim.Native.Nat.{ℕ, suc, ◌*◌, ◌/◌, ◌≤◌, ◌<◌}
use native.Mathlib.Omega.{arith}
use native.Mathlib.Nat.{mul-le-mul_left, mul-le-mul_right, div-mul-le_self, le-div_iff_mul-le, le_trans}
use borrow.Author.Tests.{ltb-true, ltb-false}
use lib.ListN.{length, get_or}
use Rattle.wide.specs.Roots.{cube_root}
use Rattle.wide.proofs.Greatest.{cube_root_floor, cube_root_above}
use Rattle.cie.specs.Sums.{Tables, row_sum, sums_of, white_of}
use Rattle.cie.specs.Colour.{limit_over, limit_under, bright, gain, straight_under, f_at, lightness_scale, lightness_at}
use Rattle.cie.specs.Colour.{tristimulus_scale, tristimulus_of, colour_of, colour_at}
use Rattle.cie.specs.Brighter.{NoneHigher, NoBrighter}
use Rattle.cie.proofs.Across.{across}

-- a quotient, down, does not fall
quotient_rises : (D : ℕ) {N P : ℕ} → 0 < D → N ≤ P → N / D ≤ P / D
quotient_rises D {N} {P} d h = (le-div_iff_mul-le {k = D} {x = N / D} {y = P} d).1 (le_trans (div-mul-le_self N D) h)

module _ (K D : ℕ) (d : 0 < D) where
  -- nor does K × f, down, on either side of the limit and across it
  f_rises : (N P : ℕ) → N ≤ P → f_at K N D ≤ f_at K P D
  f_rises N P h = go (bright N D) (bright P D) refl refl
    where
      go : (b c : Bool) → bright N D ≡ b → bright P D ≡ c → f_at K N D ≤ f_at K P D
      go true true e k = rw (e, k) (cube_root_above K P D (cube_root K N D) d (omega (arith, (cube_root_floor K N D d).0, mul-le-mul_left (K * K * K) h)))
      go true false e k = absurd (omega (arith, ltb-true (limit_over * D) (limit_under * N) e, ltb-false (limit_over * D) (limit_under * P) k))
      go false true e k = rw (e, k) (across K D d N P (ltb-false _ _ e) (ltb-true _ _ k))
      go false false e k = rw (e, k) (quotient_rises (straight_under D) (omega arith) (omega (arith, mul-le-mul_left K h)))

lightness_rises : (M N P D : ℕ) → 0 < D → N ≤ P → lightness_at M N D ≤ lightness_at M P D
unfolding lightness_at
lightness_rises M N P D d h = omega (arith, f_rises (M * (lightness_scale * gain)) D d N P h)

-- readings at most k times those, row by row, give sums at most k times those
pub row_sum_times : (k : ℕ) (rs qs is cs : List ℕ) → ((row : ℕ) → row < length is → get_or rs row 0 ≤ k * get_or qs row 0) → row_sum rs is cs ≤ k * row_sum qs is cs
unfolding row_sum
row_sum_times k [] qs is cs h = omega arith
row_sum_times k (r ∷ rs) qs [] cs h = omega arith
row_sum_times k (r ∷ rs) qs (i ∷ is) [] h = omega arith
row_sum_times k (r ∷ rs) [] (i ∷ is) (c ∷ cs) h =
    omega (arith, mul-le-mul_right c (mul-le-mul_right i (h 0 (omega arith))), row_sum_times k rs [] is cs (λ row j. h (suc row) (omega arith)))
row_sum_times k (r ∷ rs) (q ∷ qs) (i ∷ is) (c ∷ cs) h =
    omega (arith, mul-le-mul_right c (mul-le-mul_right i (h 0 (omega arith))), row_sum_times k rs qs is cs (λ row j. h (suc row) (omega arith)))

module _ (t : Tables) (first second : List ℕ) (d : 0 < (white_of t).y) (h : NoneHigher first second) where
  sum_rises : (column : List ℕ) → row_sum first t.illuminant column ≤ row_sum second t.illuminant column
  sum_rises column = omega (arith, row_sum_times 1 first second t.illuminant column (λ row j. omega (arith, h row)))

  pub colours_rise : NoBrighter (colour_at t first) (colour_at t second)
  unfolding colour_of tristimulus_of sums_of
  colours_rise =
      record {
        l = omega (arith, lightness_rises 1 _ _ (white_of t).y d (sum_rises t.y));
        x = quotient_rises (white_of t).y d (mul-le-mul_left tristimulus_scale (sum_rises t.x));
        y = quotient_rises (white_of t).y d (mul-le-mul_left tristimulus_scale (sum_rises t.y));
        z = quotient_rises (white_of t).y d (mul-le-mul_left tristimulus_scale (sum_rises t.z));
      }
