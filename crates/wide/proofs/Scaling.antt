-- How a number rounded down grows with its scale: M times as fine, it is M times as much, and less than M more. Assumes nothing.
use Rattle.std.proofs.Common.{ℕ, suc, ◌-◌, ◌*◌, ◌/◌, ◌<◌, ◌≤◌, lt_of_mul-lt-mul_right, mul-le-mul_left, mul-pos, lt_of_not-le, div-mul-le_self, arith}
use native.Mathlib.Nat.{mul-lt-mul_of_pos_left, mul-sub, lt-div-mul-add}
use native.Mathlib.Decide.{dec_le}
use Rattle.wide.specs.Roots.{cube_root}
use Rattle.wide.proofs.Greatest.{cube_lt, cube_root_floor}

-- r at scale M is what p is at scale 1, both rounded down
abbrev pub Scales : ℕ → ℕ → ℕ → Type 0
Scales M p r = (M * p ≤ r) × (r < M * suc p)

pub cube_root_scales : (M K N D : ℕ) → 1 ≤ M → 0 < D → Scales M (cube_root K N D) (cube_root (M * K) N D)
cube_root_scales M K N D m d = go (cube_root K N D) (cube_root (M * K) N D) (cube_root_floor K N D d) (cube_root_floor (M * K) N D d)
  where
    go : (p r : ℕ) → (p * p * p * D ≤ K * K * K * N) × (K * K * K * N < suc p * suc p * suc p * D) →
        (r * r * r * D ≤ M * K * (M * K) * (M * K) * N) × (M * K * (M * K) * (M * K) * N < suc r * suc r * suc r * D) → Scales M p r
    go p r f g = (
      omega (arith, cube_lt (M * p) (suc r) D (omega (arith, g.1, mul-le-mul_left (M * M * M) f.0))),
      cube_lt r (M * suc p) D (omega (arith, g.0, mul-lt-mul_of_pos_left f.1 (mul-pos (mul-pos m m) m))),
    )

pub div_floor : (n d : ℕ) → 0 < d → (n / d * d ≤ n) × (n < suc (n / d) * d)
div_floor n d h = (div-mul-le_self n d, omega (arith, lt-div-mul-add {a = n} h))

pub div_scales : (M n d : ℕ) → 1 ≤ M → 0 < d → Scales M (n / d) (M * n / d)
div_scales M n d m h = go (n / d) (M * n / d) (div_floor n d h) (div_floor (M * n) d h)
  where
    go : (p r : ℕ) → (p * d ≤ n) × (n < suc p * d) → (r * d ≤ M * n) × (M * n < suc r * d) → Scales M p r
    go p r f g = (
      omega (arith, lt_of_mul-lt-mul_right d {m = M * p} {n = suc r} (omega (arith, g.1, mul-le-mul_left M f.0))),
      lt_of_mul-lt-mul_right d {m = r} {n = M * suc p} (omega (arith, g.0, mul-lt-mul_of_pos_left f.1 m)),
    )

-- less a whole number of the same scale
pub sub_scales : (M p r k : ℕ) → 1 ≤ M → Scales M p r → Scales M (p - k) (r - M * k)
sub_scales M p r k m s =
    elim (dec_le k p) [
      | yes h ↦ omega (arith, mul-sub M p k, mul-le-mul_left M h)
      | no h ↦ omega (arith, mul-sub M p k, mul-le-mul_left M (lt_of_not-le h))
    ]
