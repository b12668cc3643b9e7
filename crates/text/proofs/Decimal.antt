-- The library's decimal text of a number is the one that the specs define, and that of a number with a sign goes by it. Assumes nothing.
use mathlib.Core.Path.{◌≡◌, refl, ap, ◌∙◌}
use mathlib.Core.Bool.{true, false}
use native.Mathlib.Nat.{not-suc-le-zero}
use mathlib.Core.List.{List, ◌∷◌, ◌++◌}
use Prim.Native.Nat.{ℕ, zero, suc, ◌/◌, ◌%◌, ◌^◌, ◌≤◌, ◌<◌}
use native.Mathlib.Omega.{arith}
use borrow.Author.Tests.{lt-ltb, le-ltb, ltb-true}
use lib.IntN.{ℤ, pos, negsuc, nat_abs}
use lib.Signed.{lt_z}
use Rattle.std.specs.Fmt as std
use Rattle.std.proofs.lemmas.Fmt.{decimal_by_steps}
use Rattle.text.specs.Text.{digit, decimal_by, decimal, signed}

-- with any fuel that is enough
Fuelled : ℕ → List ℕ → Type 0
Fuelled n text = (fuel : ℕ) → n < fuel → text ≡ decimal_by fuel n

one : (n : ℕ) → n < 10 → Fuelled n (digit n)
unfolding decimal_by Fuelled
one n h zero f = absurd (omega arith)
one n h (suc fuel) f = rw (lt-ltb n 10 h, decimal_by)

more : (n : ℕ) (text : List ℕ) → 10 ≤ n → Fuelled (n / 10) text → Fuelled n (text ++ digit (n % 10))
unfolding decimal_by Fuelled
more n text h tenth zero f = absurd (omega arith)
more n text h tenth (suc fuel) f = rw (le-ltb n 10 h, decimal_by) (ap (λ (t : List ℕ). t ++ digit (n % 10)) (tenth fuel (omega arith)))

pub decimal_is : (n : ℕ) → n < 2 ^ 64 → std.decimal n ≡ decimal n
unfolding decimal Fuelled
decimal_is n h = decimal_by_steps Fuelled one more n h (suc n) (omega arith)

-- a signed number, by its sign and its size
below : (x : ℤ) → lt_z x (pos 0) ≡ true → 45 ∷ decimal (nat_abs x) ≡ signed x
below (pos n) e = absurd (not-suc-le-zero (ltb-true n 0 e))
below (negsuc n) e = refl

from : (x : ℤ) → lt_z x (pos 0) ≡ false → decimal (nat_abs x) ≡ signed x
from (pos n) e = refl
from (negsuc n) e = let z : ◌≡◌ {A = ℕ} 0 1 = cc in absurd (omega arith)

-- y is x as a program holds it, and n its size
module _ {x y : ℤ} {n : ℕ} (held : y ≡ x) (size : n ≡ nat_abs y) where
  pub signed_below : lt_z y (pos 0) ≡ true → 45 ∷ decimal n ≡ signed x
  signed_below e = ap (λ (m : ℕ). 45 ∷ decimal m) size ∙ below y e ∙ ap signed held

  pub signed_from : lt_z y (pos 0) ≡ false → decimal n ≡ signed x
  signed_from e = ap decimal size ∙ from y e ∙ ap signed held
