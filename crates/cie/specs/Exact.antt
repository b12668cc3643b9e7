-- Document 01, "Exact difference": lengths in 1/10,000 at every whole scale M ≥ 1. Assumes nothing.
use Rattle.std.specs.Prelude.{cond, ℕ, ◌+◌, ◌*◌, ◌-◌, ◌≤◌, ◌<◌, eqb, ℤ, pos, ◌-ℤ◌, ◌*ℤ◌}
use Rattle.std.specs.Int.Signed.{quot_z}
use Rattle.signed.specs.Apart.{distance, apart}
use Rattle.cie.specs.declared.Sums.{Sums}
use Rattle.cie.specs.declared.Space.{Space}
use Rattle.cie.specs.declared.Space.TheVariants.{Cielab, Cieluv}
use Rattle.cie.specs.Colour.{uv_factor, u_over, v_over, uv_under, l_at, a_at, b_at, square, squares}

-- "13 × l × (u' − u'n) .., the coordinates kept as fractions, each rounded towards zero (0 for a black sample as above)":
-- with u' = A / S and u'n = B / W
unfoldable pub coordinate_at : (l A S B W : ℕ) → ℤ
coordinate_at l A S B W = cond (eqb S 0) (pos 0) (quot_z (pos (uv_factor * l) *ℤ (pos (A * W) -ℤ pos (B * S))) (pos (S * W)))

unfoldable pub u_at : ℕ → Sums → Sums → ℤ
u_at M w s = coordinate_at (l_at M w s) (u_over s) (uv_under s) (u_over w) (uv_under w)

unfoldable pub v_at : ℕ → Sums → Sums → ℤ
v_at M w s = coordinate_at (l_at M w s) (v_over s) (uv_under s) (v_over w) (uv_under w)

-- "Q is the sum of the squares of the two colours' three differences": of the sums s and t under the white w, at scale M
unfoldable pub squares_at : Space → Sums → Sums → Sums → ℕ → ℕ
squares_at Cielab w s t M = squares (distance (l_at M w s) (l_at M w t)) (apart (a_at M w s) (a_at M w t)) (apart (b_at M w s) (b_at M w t))
squares_at Cieluv w s t M = squares (distance (l_at M w s) (l_at M w t)) (apart (u_at M w s) (u_at M w t)) (apart (v_at M w s) (v_at M w t))

-- c: "c = 11 in CIELAB and 108 in CIELUV"
abbrev pub allowance : Space → ℕ
allowance Cielab = 11
allowance Cieluv = 108

-- h: "h = 24 in CIELAB and 228 in CIELUV"
abbrev pub guard : Space → ℕ
guard Cielab = 24
guard Cieluv = 228

-- "The exact difference is at most T when, for every M, Q ≤ (M × T + c)²"
unfoldable pub AtMost : ℕ → (ℕ → ℕ) → ℕ → Type 0
AtMost c Q T = (M : ℕ) → 1 ≤ M → Q M ≤ square (M * T + c)

-- "otherwise it exceeds T": with the scale that shows it
unfoldable pub Exceeds : ℕ → (ℕ → ℕ) → ℕ → Type 0
Exceeds c Q T = (M : ℕ) × (1 ≤ M) × (square (M * T + c) < Q M)

-- "for some M, (M × (T + h) − c) is positive and its square exceeds Q": here T stands for T + h
unfoldable pub Below : ℕ → (ℕ → ℕ) → ℕ → Type 0
Below c Q T = (M : ℕ) × (1 ≤ M) × (c < M * T) × (Q M < square (M * T - c))

-- "it is less than h from T when it exceeds T − h (always so for T < h) and is at most T + h but not equal to it"
pub record LessThanFrom (c h : ℕ) (Q : ℕ → ℕ) (T : ℕ) : Type 0 where
  pub exceeds : h ≤ T → Exceeds c Q (T - h)
  pub at_most : AtMost c Q (T + h)
  pub below : Below c Q (T + h)
