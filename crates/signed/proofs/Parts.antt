-- A whole number with a sign is its part over zero less its part under zero, both in ℕ, where `omega` works. Assumes nothing.
use mathlib.Core.Path.{◌≡◌, refl, sym, ap, ◌∙◌}
use mathlib.Core.Bool.{Bool, true, false, cond}
use Prim.Native.Nat.{ℕ, zero, suc, ◌+◌, ◌*◌, ◌-◌, ◌/◌}
use native.Mathlib.Omega.{arith}
use native.Mathlib.Nat.{mul-zero, mul-sub, zero-div}
use lib.Dec.{ltb, ltb→lt, nltb→le}
use lib.IntN.{ℤ, pos, negsuc, neg_ℤ, nat_abs, sub_ℕ, ◌+ℤ◌, ◌-ℤ◌, ◌*ℤ◌}
use lib.Signed.{quot_z}
use Rattle.signed.specs.Apart.{distance, apart}

-- z is `over z` less `under z`, and one of the two is 0
unfoldable pub over : ℤ → ℕ
over (pos n) = n
over (negsuc n) = 0

unfoldable pub under : ℤ → ℕ
under (pos n) = 0
under (negsuc n) = suc n

-- numbers with the same parts are the same
pub parts_same : (x y : ℤ) → over x ≡ over y → under x ≡ under y → x ≡ y
unfolding over under
parts_same (pos m) (pos n) e f = ap pos e
parts_same (pos m) (negsuc n) e f = absurd (omega arith)
parts_same (negsuc m) (pos n) e f = absurd (omega arith)
parts_same (negsuc m) (negsuc n) e f = ap negsuc (omega arith)

pub abs_parts : (z : ℤ) → nat_abs z ≡ distance (over z) (under z)
unfolding over under
abs_parts (pos n) = omega arith
abs_parts (negsuc n) = omega arith

-- ── differences ──

pub sub_over : (a b : ℕ) → over (sub_ℕ a b) ≡ a - b
unfolding over
sub_over a b = go (ltb a b) refl
  where
    go : (t : Bool) → ltb a b ≡ t → over (cond t (negsuc (b - suc a)) (pos (a - b))) ≡ a - b
    go true e = omega (arith, ltb→lt a b (rw e tt))
    go false e = refl

pub sub_under : (a b : ℕ) → under (sub_ℕ a b) ≡ b - a
unfolding under
sub_under a b = go (ltb a b) refl
  where
    go : (t : Bool) → ltb a b ≡ t → under (cond t (negsuc (b - suc a)) (pos (a - b))) ≡ b - a
    go true e = omega (arith, ltb→lt a b (rw e tt))
    go false e = omega (arith, nltb→le a b (rw e tt))

-- negation swaps the parts
pub neg_over : (z : ℤ) → over (neg_ℤ z) ≡ under z
unfolding over under
neg_over (pos zero) = refl
neg_over (pos (suc n)) = refl
neg_over (negsuc n) = refl

pub neg_under : (z : ℤ) → under (neg_ℤ z) ≡ over z
unfolding over under
neg_under (pos zero) = refl
neg_under (pos (suc n)) = refl
neg_under (negsuc n) = refl

pub add_parts : (x y : ℤ) → over (x +ℤ y) + (under x + under y) ≡ over x + over y + under (x +ℤ y)
unfolding over under
add_parts (pos a) (pos b) = omega arith
add_parts (pos a) (negsuc b) = omega (arith, sub_over a (suc b), sub_under a (suc b))
add_parts (negsuc a) (pos b) = omega (arith, sub_over b (suc a), sub_under b (suc a))
add_parts (negsuc a) (negsuc b) = omega arith

pub apart_parts : (x y : ℤ) → apart x y ≡ distance (over x + under y) (over y + under x)
apart_parts x y = omega (arith, abs_parts (x -ℤ y), add_parts x (neg_ℤ y), neg_over y, neg_under y)

pub diff_over : (a b : ℕ) → over (pos a -ℤ pos b) ≡ a - b
unfolding over
diff_over a zero = omega arith
diff_over a (suc b) = sub_over a (suc b)

pub diff_under : (a b : ℕ) → under (pos a -ℤ pos b) ≡ b - a
unfolding under
diff_under a zero = omega arith
diff_under a (suc b) = sub_under a (suc b)

-- ── multiples and quotients ──

pub times_over : (k : ℕ) (z : ℤ) → over (pos k *ℤ z) ≡ k * over z
unfolding over under
times_over k (pos n) = refl
times_over k (negsuc n) = neg_over (pos (k * suc n)) ∙ sym (mul-zero k)

pub times_under : (k : ℕ) (z : ℤ) → under (pos k *ℤ z) ≡ k * under z
unfolding over under
times_under k (pos n) = sym (mul-zero k)
times_under k (negsuc n) = neg_under (pos (k * suc n))

pub quot_over : (z : ℤ) (d : ℕ) → over (quot_z z (pos d)) ≡ over z / d
unfolding over under
quot_over (pos n) d = refl
quot_over (negsuc n) d = neg_over (pos (suc n / d)) ∙ sym (zero-div d)

pub quot_under : (z : ℤ) (d : ℕ) → under (quot_z z (pos d)) ≡ under z / d
unfolding over under
quot_under (pos n) d = sym (zero-div d)
quot_under (negsuc n) d = neg_under (pos (suc n / d))

-- k (a − b), and that over d rounded towards zero
pub scaled_over : (k a b : ℕ) → over (pos k *ℤ (pos a -ℤ pos b)) ≡ k * (a - b)
scaled_over k a b = rw (times_over, diff_over)

pub scaled_under : (k a b : ℕ) → under (pos k *ℤ (pos a -ℤ pos b)) ≡ k * (b - a)
scaled_under k a b = rw (times_under, diff_under)

pub share_over : (k a b d : ℕ) → over (quot_z (pos k *ℤ (pos a -ℤ pos b)) (pos d)) ≡ k * (a - b) / d
share_over k a b d = rw (quot_over, scaled_over)

pub share_under : (k a b d : ℕ) → under (quot_z (pos k *ℤ (pos a -ℤ pos b)) (pos d)) ≡ k * (b - a) / d
share_under k a b d = rw (quot_under, scaled_under)

-- ── the same, from whole numbers ──

pub scaled_diff : (k a b : ℕ) → pos (k * a) -ℤ pos (k * b) ≡ pos k *ℤ (pos a -ℤ pos b)
scaled_diff k a b =
    parts_same (pos (k * a) -ℤ pos (k * b)) (pos k *ℤ (pos a -ℤ pos b))
    (diff_over (k * a) (k * b) ∙ sym (mul-sub k a b) ∙ sym (scaled_over k a b))
    (diff_under (k * a) (k * b) ∙ sym (mul-sub k b a) ∙ sym (scaled_under k a b))
