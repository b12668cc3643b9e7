-- CIELAB: how the differences of a and b grow with the scale, and that the verdict's rule is right of the exact difference. Assumes nothing.
use mathlib.Core.Path.{◌≡◌, refl, ap, ◌∙◌}
use Prim.Native.Nat.{ℕ, ◌+◌, ◌*◌, ◌-◌, ◌≤◌}
use native.Mathlib.Omega.{arith}
use native.Mathlib.Nat.{mul-le-mul_left}
use lib.Dec.{lit≤}
use lib.IntN.{pos, ◌-ℤ◌, ◌*ℤ◌}
use Rattle.signed.specs.Apart.{distance, apart}
use Rattle.wide.proofs.Greatest.{square_root_floor}
use Rattle.signed.proofs.Parts.{apart_parts, scaled_over, scaled_under}
use Rattle.wide.proofs.Scaling.{Scales}
use Rattle.cie.specs.declared.Sums.{Sums}
use Rattle.cie.specs.declared.Space.TheVariants.{Cielab}
use Rattle.cie.specs.Sums.{White}
use Rattle.cie.specs.Colour.{l_at, a_factor, b_factor, a_at, b_at, squares, colour_of, lab_difference}
use Rattle.cie.specs.Exact.{allowance, squares_at}
use Rattle.cie.specs.Verdict.{margin, verdict_of, difference, Told}
use Rattle.cie.proofs.Steps.{step_scales}
use Rattle.cie.proofs.Rule.{Axis, rule_right}
use Rattle.cie.proofs.RuleAxes.{distance_scales, distance_times, exact_axis, lightness_axis}
use Rattle.cie.proofs.Whites.{white_x, white_y, white_z}

-- ── multiples of differences ──

-- k (a − b) against k (c − d)
apart_scaled : (k a b c d : ℕ) → apart (pos k *ℤ (pos a -ℤ pos b)) (pos k *ℤ (pos c -ℤ pos d)) ≡ k * distance (a + d) (c + b)
apart_scaled k a b c d =
    rw (apart_parts, scaled_over k a b, scaled_under k c d, scaled_over k c d, scaled_under k a b)
    (shift (k * (a - b) + k * (d - c)) (k * (c - d) + k * (b - a)) (k * (a + d)) (k * (c + b)) (omega (arith, swap a b, swap c d))
    ∙ distance_times k (a + d) (c + b))
  where
    shift : (m n p q : ℕ) → m + q ≡ p + n → distance m n ≡ distance p q
    shift m n p q e = omega arith

    swap : (a b : ℕ) → k * (a - b) + k * b ≡ k * a + k * (b - a)
    swap a b = let e : a - b + b ≡ a + (b - a) = omega arith in omega (arith, ap (λ x. k * x) e)

apart_scales : (M k a b c d A B C D : ℕ) → Scales M a A → Scales M b B → Scales M c C → Scales M d D →
    apart (pos k *ℤ (pos A -ℤ pos B)) (pos k *ℤ (pos C -ℤ pos D)) ≤ M * (apart (pos k *ℤ (pos a -ℤ pos b)) (pos k *ℤ (pos c -ℤ pos d)) + 2 * k)
apart_scales M k a b c d A B C D p q r s =
    rw (apart_scaled k A B C D, apart_scaled k a b c d)
    (omega (arith, mul-le-mul_left k (distance_scales M (2 * M) (a + d) (c + b) (A + D) (C + B) (omega arith) (omega arith) (omega arith) (omega arith))))

-- ── the coordinates ──

module _ (w s t : Sums) (W : White w) where
  a_axis : Axis (2 * a_factor) 0 (apart (a_at 1 w s) (a_at 1 w t)) (λ M. apart (a_at M w s) (a_at M w t))
  unfolding a_at
  a_axis = exact_axis (2 * a_factor) (λ M. apart (a_at M w s) (a_at M w t)) (λ M m. apart_scales M a_factor _ _ _ _ _ _ _ _
      (step_scales M s.x w.x m (white_x W))
      (step_scales M s.y w.y m (white_y W))
      (step_scales M t.x w.x m (white_x W))
      (step_scales M t.y w.y m (white_y W)))

  b_axis : Axis (2 * b_factor) 0 (apart (b_at 1 w s) (b_at 1 w t)) (λ M. apart (b_at M w s) (b_at M w t))
  unfolding b_at
  b_axis = exact_axis (2 * b_factor) (λ M. apart (b_at M w s) (b_at M w t)) (λ M m. apart_scales M b_factor _ _ _ _ _ _ _ _
      (step_scales M s.y w.y m (white_y W))
      (step_scales M s.z w.z m (white_z W))
      (step_scales M t.y w.y m (white_y W))
      (step_scales M t.z w.z m (white_z W)))

  -- 1² + 10² + 4² is at most the square of the margin less 1, and the margin is above the allowance
  pub cielab_right : (T : ℕ) → Told Cielab (squares_at Cielab w s t) T (verdict_of (margin Cielab) (difference Cielab (colour_of w s) (colour_of w t)) T)
  unfolding squares_at lab_difference colour_of
  cielab_right = rule_right (lightness_axis s.y t.y w.y (white_y W)) a_axis b_axis _ (margin Cielab - allowance Cielab) (margin Cielab - 1)
      (square_root_floor (squares (distance (l_at 1 w s) (l_at 1 w t)) (apart (a_at 1 w s) (a_at 1 w t)) (apart (b_at 1 w s) (b_at 1 w t))))
      (lit≤ tt) (lit≤ tt) Cielab (lit≤ tt) refl refl
