-- The verdict's rule is right of the exact difference, for any roundings of the three coordinates that the margin covers. Assumes nothing.
use mathlib.Core.Path.{◌≡◌, refl}
use mathlib.Core.Bool.{Bool, true, false, cond}
use Prim.Native.Nat.{ℕ, suc, ◌+◌, ◌*◌, ◌-◌, ◌≤◌, ◌<◌}
use native.Mathlib.Omega.{arith}
use native.Mathlib.Nat.{mul-le-mul_left, lt_of_not-le, le_trans}
use native.Mathlib.Decide.{dec_le}
use lib.Dec.{leb}
use borrow.Author.Tests.{leb-true, leb-false}
use Rattle.wide.proofs.Greatest.{root_lt}
use Rattle.cie.specs.declared.Space.{Space}
use Rattle.cie.specs.declared.Verdict.TheVariants.{Pass, Fail, OnTheLine}
use Rattle.cie.specs.Colour.{square, squares}
use Rattle.cie.specs.Exact.{allowance, guard, AtMost, Exceeds, Below, LessThanFrom}
use Rattle.cie.specs.Verdict.{margin, verdict_of, Told}
use Rattle.cie.proofs.Lengths.{square_le, squares_le, triangle}

-- what `Exceeds` denies
pub exceeds_not : (c : ℕ) (Q : ℕ → ℕ) (T : ℕ) → Exceeds c Q T → ¬ AtMost c Q T
unfolding AtMost Exceeds
exceeds_not c Q T x a = omega (arith, x.2, a x.0 x.1)

-- One coordinate of two colours: their whole difference d, and their difference D at each scale, which is at most e above d,
-- and at scale 1 within j of it.
pub record Axis (e j d : ℕ) (D : ℕ → ℕ) : Type 0 where
  pub far : (M : ℕ) → 1 ≤ M → D M ≤ M * (d + e)
  pub up : D 1 ≤ d + j
  pub down : d ≤ D 1 + j

-- the squares of three coordinates' differences at each scale
abbrev pub squares_of : (D₁ D₂ D₃ : ℕ → ℕ) → ℕ → ℕ
squares_of D₁ D₂ D₃ M = squares (D₁ M) (D₂ M) (D₃ M)

-- Three coordinates whose whole differences have the length E, down; G covers the roundings at every scale, J those at scale 1.
module _ {d₁ d₂ d₃ e₁ e₂ e₃ j₁ j₂ j₃ : ℕ} {D₁ D₂ D₃ : ℕ → ℕ}
    (x : Axis e₁ j₁ d₁ D₁) (y : Axis e₂ j₂ d₂ D₂) (z : Axis e₃ j₃ d₃ D₃) (E J G : ℕ)
    (floor : (square E ≤ squares d₁ d₂ d₃) × (squares d₁ d₂ d₃ < square (suc E)))
    (all : squares e₁ e₂ e₃ ≤ square G) (one : squares j₁ j₂ j₃ < square J) where
  -- at every scale the exact length is at most M × (E + 1 + G)
  far : (M T : ℕ) → 1 ≤ M → E + suc G ≤ T → squares_of D₁ D₂ D₃ M ≤ square (M * T)
  far M T m h =
      let t : squares (d₁ + e₁) (d₂ + e₂) (d₃ + e₃) ≤ square (suc E + G) = omega (arith, triangle d₁ d₂ d₃ e₁ e₂ e₃ (suc E) G (omega arith) all) in
      let u : squares (M * (d₁ + e₁)) (M * (d₂ + e₂)) (M * (d₃ + e₃)) ≤ square (M * (suc E + G)) = omega (arith, mul-le-mul_left (M * M) t) in
      let v : square (M * (suc E + G)) ≤ square (M * T) = square_le (mul-le-mul_left M (omega arith)) in
      le_trans (squares_le (x.far M m) (y.far M m) (z.far M m)) (le_trans u v)

  -- at scale 1 the whole length is less than J above the exact one, and the exact one less than J + 1 above the whole one
  not_far : (R : ℕ) → squares_of D₁ D₂ D₃ 1 ≤ square R → E < R + J
  not_far R h = root_lt E (R + J)
      (omega (arith, squares_le x.down y.down z.down, triangle (D₁ 1) (D₂ 1) (D₃ 1) j₁ j₂ j₃ R J h (omega arith)))

  near : (R : ℕ) → E + suc J ≤ R → squares_of D₁ D₂ D₃ 1 < square R
  near R h = omega (arith, square_le h, squares_le x.up y.up z.up, triangle d₁ d₂ d₃ j₁ j₂ j₃ (suc E) J (omega arith) (omega arith))

  pub pass : (c T : ℕ) → E + suc G ≤ T → AtMost c (squares_of D₁ D₂ D₃) T
  unfolding AtMost
  pass c T h M m = le_trans (far M T m h) (square_le (omega arith))

  pub fail : (c T : ℕ) → T + (c + J) ≤ E → Exceeds c (squares_of D₁ D₂ D₃) T
  unfolding Exceeds
  fail c T h =
      let decided = dec_le (squares_of D₁ D₂ D₃ 1) (square (1 * T + c)) in
      (1, omega arith, elim decided [ yes p ↦ absurd (omega (arith, not_far (1 * T + c) p)) | no q ↦ lt_of_not-le q ])

  pub line : (c T : ℕ) → suc G ≤ c + J → E < T + (c + J) → T < E + (c + J) → LessThanFrom c (2 * (c + J)) (squares_of D₁ D₂ D₃) T
  unfolding Below
  line c T g h l =
      record {
        exceeds = λ a. fail c (T - 2 * (c + J)) (omega arith);
        at_most = pass c (T + 2 * (c + J)) (omega arith);
        below = (1, omega arith, omega arith, near (1 * (T + 2 * (c + J)) - c) (omega arith));
      }

  -- a space whose margin is its allowance and J, and above G, and whose guard is twice its margin
  pub rule_right : (k : Space) → G < margin k → margin k ≡ allowance k + J → guard k ≡ 2 * margin k → (T : ℕ) →
      Told k (squares_of D₁ D₂ D₃) T (verdict_of (margin k) E T)
  rule_right k g e f T = go (leb (E + margin k) T) refl (leb (T + margin k) E) refl
    where
      go : (s : Bool) → leb (E + margin k) T ≡ s → (t : Bool) → leb (T + margin k) E ≡ t →
          Told k (squares_of D₁ D₂ D₃) T (cond s Pass (cond t Fail OnTheLine))
      go true p t q = pass (allowance k) T (omega (arith, leb-true (E + margin k) T p))
      go false p true q = fail (allowance k) T (omega (arith, leb-true (T + margin k) E q))
      go false p false q =
          rw (f, e) (line (allowance k) T (omega arith) (omega (arith, leb-false (T + margin k) E q)) (omega (arith, leb-false (E + margin k) T p)))
