-- How distances grow with the scale, and the axis of L, which both spaces have. Assumes nothing.
use mathlib.Core.Path.{◌≡◌}
use Prim.Native.Nat.{ℕ, ◌+◌, ◌*◌, ◌≤◌, ◌<◌}
use native.Mathlib.Omega.{arith}
use native.Mathlib.Nat.{mul-sub}
use Rattle.signed.specs.Apart.{distance}
use Rattle.wide.proofs.Scaling.{Scales}
use Rattle.cie.specs.Colour.{lightness_at}
use Rattle.cie.proofs.Steps.{lightness_scales}
use Rattle.cie.proofs.Rule.{Axis}

-- the distance of two numbers that a scale makes M times as large, and at most k more
pub distance_scales : (M k x y X Y : ℕ) → M * x ≤ X → X ≤ M * x + k → M * y ≤ Y → Y ≤ M * y + k → distance X Y ≤ M * distance x y + k
distance_scales M k x y X Y p q r s = omega (arith, mul-sub M x y, mul-sub M y x)

pub distance_times : (k x y : ℕ) → distance (k * x) (k * y) ≡ k * distance x y
distance_times k x y = omega (arith, mul-sub k x y, mul-sub k y x)

-- a coordinate whose whole difference is that of scale 1
pub exact_axis : (e : ℕ) (D : ℕ → ℕ) → ((M : ℕ) → 1 ≤ M → D M ≤ M * (D 1 + e)) → Axis e 0 (D 1) D
exact_axis e D h = record { far = h; up = omega arith; down = omega arith }

-- L of two samples, in both spaces
pub lightness_axis : (N K D : ℕ) → 0 < D → Axis 1 0 (distance (lightness_at 1 N D) (lightness_at 1 K D)) (λ M. distance (lightness_at M N D) (lightness_at M K D))
lightness_axis N K D d =
    exact_axis 1 (λ M. distance (lightness_at M N D) (lightness_at M K D)) (λ M m. go M (lightness_scales M N D m d) (lightness_scales M K D m d))
  where
    go : (M : ℕ) → Scales M (lightness_at 1 N D) (lightness_at M N D) → Scales M (lightness_at 1 K D) (lightness_at M K D) →
        distance (lightness_at M N D) (lightness_at M K D) ≤ M * (distance (lightness_at 1 N D) (lightness_at 1 K D) + 1)
    go M p q =
        omega (
          arith,
          distance_scales M M (lightness_at 1 N D) (lightness_at 1 K D) (lightness_at M N D) (lightness_at M K D) p.0 (omega arith) q.0 (omega arith),
        )
