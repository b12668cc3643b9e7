-- Sizes of signed numbers: a negation, a product, a difference in either order. Assumes nothing.
use mathlib.Core.Path.{◌≡◌, refl, sym, ap, ◌∙◌}
use mathlib.Core.Bool.{Bool, true, false, cond}
use Prim.Native.Nat.{ℕ, zero, suc, ◌+◌, ◌*◌}
use native.Mathlib.Omega.{arith}
use lib.IntN.{ℤ, pos, negsuc, neg_ℤ, nat_abs, ◌-ℤ◌, ◌*ℤ◌}
use lib.Signed.{lt_z}
use Rattle.signed.specs.Apart.{distance, apart}
use Rattle.signed.proofs.Parts.{parts_same, abs_parts, neg_over, neg_under, apart_parts, diff_over, diff_under}
use Rattle.hue.specs.Hue.{with_sign}

pub neg_abs : (z : ℤ) → nat_abs (neg_ℤ z) ≡ nat_abs z
neg_abs (pos zero) = refl
neg_abs (pos (suc n)) = refl
neg_abs (negsuc n) = refl

pub product_abs : (x y : ℤ) → nat_abs (x *ℤ y) ≡ nat_abs x * nat_abs y
product_abs (pos a) (pos b) = refl
product_abs (pos a) (negsuc b) = neg_abs (pos (a * suc b))
product_abs (negsuc a) (pos b) = neg_abs (pos (suc a * b))
product_abs (negsuc a) (negsuc b) = refl

pub apart_same : (x y : ℤ) → apart x y ≡ apart y x
apart_same x y = omega (arith, apart_parts x y, apart_parts y x)

pub distance_same : (a b : ℕ) → distance a b ≡ distance b a
distance_same a b = omega arith

-- the size of a difference of two ℕ
pub difference_abs : (a b : ℕ) → nat_abs (pos a -ℤ pos b) ≡ distance a b
difference_abs a b = omega (arith, abs_parts (pos a -ℤ pos b), diff_over a b, diff_under a b)

pub difference_turned : (a b : ℕ) → pos a -ℤ pos b ≡ neg_ℤ (pos b -ℤ pos a)
difference_turned a b =
    let d = pos b -ℤ pos a in
    parts_same (pos a -ℤ pos b) (neg_ℤ d) (diff_over a b ∙ sym (neg_over d ∙ diff_under b a)) (diff_under a b ∙ sym (neg_under d ∙ diff_over b a))

pub zero_less : (n : ℕ) → pos 0 -ℤ pos n ≡ neg_ℤ (pos n)
zero_less n = let e : n + 0 ≡ n = omega arith in difference_turned 0 n ∙ ap (λ (m : ℕ). neg_ℤ (pos m)) e

-- a sign changes no size
pub sign_abs : (z : ℤ) (n : ℕ) → nat_abs (with_sign z n) ≡ n
sign_abs z n = go (lt_z z (pos 0))
  where
    go : (t : Bool) → nat_abs (cond t (neg_ℤ (pos n)) (pos n)) ≡ n
    go true = neg_abs (pos n)
    go false = refl
