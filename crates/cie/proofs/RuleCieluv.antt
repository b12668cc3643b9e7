-- CIELUV: how the differences of u and v grow with the scale, and that the verdict's rule is right of the exact difference. Assumes nothing.
use mathlib.Core.Path.{◌≡◌, refl, ap}
use mathlib.Core.Bool.{Bool, true, false, cond}
use Prim.Native.Nat.{ℕ, suc, ◌+◌, ◌*◌, ◌-◌, ◌/◌, ◌≤◌, ◌<◌}
use native.Mathlib.Omega.{arith}
use native.Mathlib.Nat.{mul_comm, mul-zero, zero-div, mul-le-mul_left, mul-le-mul_right, mul-lt-mul_of_pos_left, mul-lt-mul_of_pos_right}
use native.Mathlib.Nat.{mul-pos, lt_of_mul-lt-mul_left, sub-eq-zero_of_le, le_of_suc-le-suc, add-sub_of_le}
use native.Mathlib.Decide.{dec_le}
use lib.Dec.{eqb, lit≤}
use lib.IntN.{ℤ, pos, ◌-ℤ◌, ◌*ℤ◌}
use lib.Signed.{quot_z}
use Rattle.signed.specs.Apart.{distance, apart}
use Rattle.wide.proofs.Greatest.{square_root_floor}
use Rattle.wide.proofs.Scaling.{div_floor}
use Rattle.signed.proofs.Parts.{over, under, apart_parts, share_over, share_under}
use Rattle.cie.specs.declared.Sums.{Sums}
use Rattle.cie.specs.declared.Space.TheVariants.{Cieluv}
use Rattle.cie.specs.Sums.{White, AtMostTwice}
use Rattle.cie.specs.Colour.{u_over, v_over, uv_under, prime_scale, prime, uv_factor, coordinate, u_of, v_of, lightness_at, l_at, squares, colour_of, luv_difference}
use Rattle.cie.specs.Exact.{allowance, coordinate_at, u_at, v_at, squares_at}
use Rattle.cie.specs.Verdict.{margin, verdict_of, difference, Told}
use Rattle.cie.proofs.Steps.{lightness_scales, lightness_size}
use Rattle.cie.proofs.Rule.{Axis, rule_right}
use Rattle.cie.proofs.RuleAxes.{distance_times, lightness_axis}
use Rattle.cie.proofs.Whites.{above_zero, white_y}

-- ── one coordinate of one colour: the exact one, P − P', against M times the whole one, p − p' ──

record Near (M k P P' p p' : ℕ) : Type 0 where
  above : P + M * p' < P' + M * p + k
  below : P' + M * p < P + M * p' + k

-- k (a − b) / d, rounded towards zero, has this part over zero
abbrev share : (k a b d : ℕ) → ℕ
share k a b d = k * (a - b) / d

no_share : (k a b d : ℕ) → a ≤ b → share k a b d ≡ 0
no_share k a b d h = rw (sub-eq-zero_of_le h, mul-zero, zero-div)

-- l is L at scale M, and no more than s above M × L; 13 × A/S and 13 × B/W are at most f
module _ (M L l s f : ℕ) (m : 1 ≤ M) (small : uv_factor * L ≤ 2 * prime_scale) (low : M * L ≤ l) (high : l ≤ M * L + s) where
  -- the share P of δ / Δ, against the share p of n / prime_scale
  share_up : (δ Δ n p P : ℕ) → 0 < Δ → prime_scale * δ ≤ suc n * Δ → uv_factor * L * n < suc p * prime_scale → uv_factor * δ ≤ f * Δ →
      P * Δ ≤ uv_factor * l * δ → P < M * (p + 3) + f * s
  share_up δ Δ n p P d a b c e = lt_of_mul-lt-mul_left (prime_scale * Δ) {m = P} {n = M * (p + 3) + f * s}
      (omega (
        arith,
        mul-le-mul_left (uv_factor * prime_scale * δ) high,
        mul-le-mul_left (prime_scale * s) c,
        mul-le-mul_left (uv_factor * M * L) a,
        mul-lt-mul_of_pos_left b (mul-pos m d),
        mul-le-mul_left (M * Δ) small,
      ))

  share_down : (δ Δ n p P : ℕ) → 0 < Δ → n * Δ ≤ prime_scale * δ + Δ → p * prime_scale ≤ uv_factor * L * n →
      uv_factor * l * δ < suc P * Δ → M * p < suc P + 2 * M
  share_down δ Δ n p P d a b c = lt_of_mul-lt-mul_left (prime_scale * Δ) {m = M * p} {n = suc P + 2 * M}
      (omega (
        arith,
        mul-le-mul_left (M * Δ) b,
        mul-le-mul_left (uv_factor * M * L) a,
        mul-le-mul_left (M * Δ) small,
        mul-le-mul_left (uv_factor * prime_scale * δ) low,
      ))

  -- A/S not below B/W
  ordered : (A S B W : ℕ) → 0 < S → 0 < W → uv_factor * A ≤ f * S → B * S ≤ A * W →
      Near M (f * s + 3 * M) (share (uv_factor * l) (A * W) (B * S) (S * W)) (share (uv_factor * l) (B * S) (A * W) (S * W))
      (share (uv_factor * L) (prime A S) (prime B W) prime_scale) (share (uv_factor * L) (prime B W) (prime A S) prime_scale)
  ordered A S B W hS hW hA hB =
      go (prime A S) (prime B W) (A * W - B * S) (omega arith) (div_floor (prime_scale * A) S hS) (div_floor (prime_scale * B) W hW)
    where
      go : (a b δ : ℕ) → B * S + δ ≡ A * W → (a * S ≤ prime_scale * A) × (prime_scale * A < suc a * S) →
          (b * W ≤ prime_scale * B) × (prime_scale * B < suc b * W) →
          Near M (f * s + 3 * M) (uv_factor * l * δ / (S * W)) (share (uv_factor * l) (B * S) (A * W) (S * W))
          (share (uv_factor * L) a b prime_scale) (share (uv_factor * L) b a prime_scale)
      go a b δ e g h =
          let d : 0 < S * W = mul-pos hS hW in
          let hi : prime_scale * δ + b * (S * W) < suc a * (S * W) = omega (arith, mul-lt-mul_of_pos_right g.1 hW, mul-le-mul_right S h.0) in
          let lo : a * (S * W) ≤ prime_scale * δ + suc b * (S * W) = omega (arith, mul-le-mul_right W g.0, mul-le-mul_right S h.1) in
          let ba : b ≤ a = le_of_suc-le-suc (lt_of_mul-lt-mul_left (S * W) {m = b} {n = suc a} (omega arith)) in
          let q : b * (S * W) + (a - b) * (S * W) ≡ a * (S * W) = omega (arith, ap (λ x. x * (S * W)) (add-sub_of_le ba)) in
          let p = div_floor (uv_factor * L * (a - b)) prime_scale (lit≤ tt) in
          let P = div_floor (uv_factor * l * δ) (S * W) d in
          let up = share_up δ (S * W) (a - b) _ _ d (omega arith) p.1 (omega (arith, mul-le-mul_right W hA)) P.0 in
          let down = share_down δ (S * W) (a - b) _ _ d (omega arith) p.0 P.1 in
          rw (no_share (uv_factor * l) (B * S) (A * W) (S * W) hB, no_share (uv_factor * L) b a prime_scale ba)
          (record { above = omega (arith, up); below = omega (arith, down) })

  share_near : (A S B W : ℕ) → 0 < S → 0 < W → uv_factor * A ≤ f * S → uv_factor * B ≤ f * W →
      Near M (f * s + 3 * M) (share (uv_factor * l) (A * W) (B * S) (S * W)) (share (uv_factor * l) (B * S) (A * W) (S * W))
      (share (uv_factor * L) (prime A S) (prime B W) prime_scale) (share (uv_factor * L) (prime B W) (prime A S) prime_scale)
  share_near A S B W hS hW hA hB =
      elim (dec_le (B * S) (A * W)) [
        | yes h ↦ ordered A S B W hS hW hA h
        | no h ↦ let n = ordered B W A S hW hS hB (omega arith) in rw (mul_comm S W) (record { above = n.below; below = n.above })
      ]

  coordinate_near : (A S B W : ℕ) → 0 < W → uv_factor * A ≤ f * S → uv_factor * B ≤ f * W →
      Near M (f * s + 3 * M) (over (coordinate_at l A S B W)) (under (coordinate_at l A S B W)) (over (coordinate L A S B W)) (under (coordinate L A S B W))
  unfolding coordinate_at coordinate over under
  coordinate_near A S B W hW hA hB = go (eqb S 0) refl
    where
      x : ℤ
      x = quot_z (pos (uv_factor * l) *ℤ (pos (A * W) -ℤ pos (B * S))) (pos (S * W))

      y : ℤ
      y = quot_z (pos (uv_factor * L) *ℤ (pos (prime A S) -ℤ pos (prime B W))) (pos prime_scale)

      go : (b : Bool) → eqb S 0 ≡ b →
          Near M (f * s + 3 * M) (over (cond b (pos 0) x)) (under (cond b (pos 0) x)) (over (cond b (pos 0) y)) (under (cond b (pos 0) y))
      go true e = record { above = omega arith; below = omega arith }
      go false e = simp (share_over, share_under) (share_near A S B W (above_zero S e) hW hA hB)

-- ── the difference of two colours ──

near_apart : (M k : ℕ) (x x' y y' : ℤ) → Near M k (over x) (under x) (over y) (under y) → Near M k (over x') (under x') (over y') (under y') →
    (apart x x' + 2 ≤ M * apart y y' + 2 * k) × (M * apart y y' + 2 ≤ apart x x' + 2 * k)
near_apart M k x x' y y' p q =
    rw (apart_parts x x', apart_parts y y', ← distance_times M (over y + under y') (over y' + under y))
    (omega (arith, p.above, p.below, q.above, q.below))

-- u or v of two samples, with the lightnesses of N/D and K/D: the exact difference is at most 2 (f + 3) above the whole one, and at scale 1 within 4 of it
coordinate_axis : (f N K D A S A' S' B W : ℕ) → 0 < D → N ≤ 2 * D → K ≤ 2 * D → 0 < W →
    uv_factor * A ≤ f * S → uv_factor * A' ≤ f * S' → uv_factor * B ≤ f * W →
    Axis (2 * (f + 3)) 4 (apart (coordinate (lightness_at 1 N D) A S B W) (coordinate (lightness_at 1 K D) A' S' B W))
    (λ M. apart (coordinate_at (lightness_at M N D) A S B W) (coordinate_at (lightness_at M K D) A' S' B W))
coordinate_axis f N K D A S A' S' B W hD hN hK hW hA hA' hB =
    record {
      far = λ M m. omega (arith, (both M M m (whole M N m) (whole M K m)).0);
      up = omega (arith, (both 1 0 (lit≤ tt) (omega arith) (omega arith)).0);
      down = omega (arith, (both 1 0 (lit≤ tt) (omega arith) (omega arith)).1);
    }
  where
    whole : (M N : ℕ) → 1 ≤ M → lightness_at M N D ≤ M * lightness_at 1 N D + M
    whole M N m = omega (arith, (lightness_scales M N D m hD).1)

    both : (M s : ℕ) → 1 ≤ M → lightness_at M N D ≤ M * lightness_at 1 N D + s → lightness_at M K D ≤ M * lightness_at 1 K D + s →
        (apart (coordinate_at (lightness_at M N D) A S B W) (coordinate_at (lightness_at M K D) A' S' B W) + 2
        ≤ M * apart (coordinate (lightness_at 1 N D) A S B W) (coordinate (lightness_at 1 K D) A' S' B W) + 2 * (f * s + 3 * M))
        × (M * apart (coordinate (lightness_at 1 N D) A S B W) (coordinate (lightness_at 1 K D) A' S' B W) + 2
        ≤ apart (coordinate_at (lightness_at M N D) A S B W) (coordinate_at (lightness_at M K D) A' S' B W) + 2 * (f * s + 3 * M))
    both M s m p q = near_apart M (f * s + 3 * M) _ _ _ _
        (coordinate_near M (lightness_at 1 N D) (lightness_at M N D) s f m (omega (arith, lightness_size N D hD hN))
        (lightness_scales M N D m hD).0 p A S B W hW hA hB)
        (coordinate_near M (lightness_at 1 K D) (lightness_at M K D) s f m (omega (arith, lightness_size K D hD hK))
        (lightness_scales M K D m hD).0 q A' S' B W hW hA' hB)

module _ (w s t : Sums) (W : White w) (S : AtMostTwice w s) (T : AtMostTwice w t) where
  -- 13 × 4 X ≤ 52 × (X + 15 Y + 3 Z)
  u_axis : Axis 110 4 (apart (u_of w s) (u_of w t)) (λ M. apart (u_at M w s) (u_at M w t))
  unfolding u_of u_at
  u_axis = coordinate_axis 52 s.y t.y w.y (u_over s) (uv_under s) (u_over t) (uv_under t) (u_over w) (uv_under w)
      (white_y W) S.y T.y (omega (arith, white_y W)) (omega arith) (omega arith) (omega arith)

  -- 13 × 9 Y ≤ 8 × (X + 15 Y + 3 Z)
  v_axis : Axis 22 4 (apart (v_of w s) (v_of w t)) (λ M. apart (v_at M w s) (v_at M w t))
  unfolding v_of v_at
  v_axis = coordinate_axis 8 s.y t.y w.y (v_over s) (uv_under s) (v_over t) (uv_under t) (v_over w) (uv_under w)
      (white_y W) S.y T.y (omega (arith, white_y W)) (omega arith) (omega arith) (omega arith)

  -- 1² + 110² + 22² is at most the square of the margin less 1, and 4² + 4² below the square of the margin less the allowance
  pub cieluv_right : (amount : ℕ) →
      Told Cieluv (squares_at Cieluv w s t) amount (verdict_of (margin Cieluv) (difference Cieluv (colour_of w s) (colour_of w t)) amount)
  unfolding squares_at luv_difference colour_of
  cieluv_right = rule_right (lightness_axis s.y t.y w.y (white_y W)) u_axis v_axis _ (margin Cieluv - allowance Cieluv) (margin Cieluv - 1)
      (square_root_floor (squares (distance (l_at 1 w s) (l_at 1 w t)) (apart (u_of w s) (u_of w t)) (apart (v_of w s) (v_of w t))))
      (lit≤ tt) (lit≤ tt) Cieluv (lit≤ tt) refl refl
