-- Numbers of two digits in a base P: their product by columns, their order, and the bounds that keep a sum or a multiple to two digits. Assumes nothing.
use Rattle.std.proofs.Common.{◌≡◌, ℕ, suc, ◌+◌, ◌*◌, ◌/◌, ◌%◌, ◌^◌, ◌<◌, ◌≤◌, leb, sym, ap, ◌∙◌, lt_of_le_of_lt, mul-le-mul_right, lt_of_mul-lt-mul_right, div-add-mod', arith, le-leb}
use native.Mathlib.Nat.{mul-lt-mul_of_pos_left, add-mod, add-mod-mod, mod-add-mod}
use native.Mathlib.Decide.{dec_le}
use borrow.Author.Tests.{lt-leb}
use Rattle.guesses.proofs.Products.{half_product}

-- ── the product of two words by halves of 32 bits ──

-- no product of halves is above (2^32 − 1)²
pub record Halves (a b : ℕ) : Type 0 where
  pub low_low : a % 2 ^ 32 * (b % 2 ^ 32) ≤ 18446744065119617025
  pub low_high : a % 2 ^ 32 * (b / 2 ^ 32) ≤ 18446744065119617025
  pub high_low : a / 2 ^ 32 * (b % 2 ^ 32) ≤ 18446744065119617025
  pub high_high : a / 2 ^ 32 * (b / 2 ^ 32) ≤ 18446744065119617025

pub halves : (a b : ℕ) → a < 2 ^ 64 → b < 2 ^ 64 → Halves a b
halves a b h k =
    record {
      low_low = half_product (a % 2 ^ 32) (b % 2 ^ 32) (omega arith) (omega arith);
      low_high = half_product (a % 2 ^ 32) (b / 2 ^ 32) (omega arith) (omega arith);
      high_low = half_product (a / 2 ^ 32) (b % 2 ^ 32) (omega arith) (omega arith);
      high_high = half_product (a / 2 ^ 32) (b / 2 ^ 32) (omega arith) (omega arith);
    }

-- the product by its columns, given each column's carry and digit
columns : (P a₀ a₁ b₀ b₁ q₀ r₀ q r q₁ r₁ : ℕ) → q₀ * P + r₀ ≡ a₀ * b₀ → q * P + r ≡ a₁ * b₀ + q₀ → q₁ * P + r₁ ≡ r + a₀ * b₁ →
    (a₁ * b₁ + q + q₁) * (P * P) + (r₁ * P + r₀) ≡ (a₁ * P + a₀) * (b₁ * P + b₀)
columns P a₀ a₁ b₀ b₁ q₀ r₀ q r q₁ r₁ e₀ e e₁ = omega (arith, ap (λ (x : ℕ). x * P) e, ap (λ (x : ℕ). x * P) e₁)

-- the same, with the carries and digits as a program takes them
whole : (P a b : ℕ) →
    let w : ℕ = a % P * (b % P) in
    let t : ℕ = a / P * (b % P) + w / P in
    let m : ℕ = t % P + a % P * (b / P) in
    (a / P * (b / P) + t / P + m / P) * (P * P) + (m % P * P + w % P) ≡ a * b
whole P a b =
    let w : ℕ = a % P * (b % P) in
    let t : ℕ = a / P * (b % P) + w / P in
    let m : ℕ = t % P + a % P * (b / P) in
    columns P (a % P) (a / P) (b % P) (b / P) (w / P) (w % P) (t / P) (t % P) (m / P) (m % P) (div-add-mod' w P) (div-add-mod' t P) (div-add-mod' m P)
    ∙ rw (div-add-mod' a P, div-add-mod' b P)

-- the lower word, as the lowest product and the two in the middle, moved up
moved_up : (w v : ℕ) → v < 2 ^ 32 → (w + v * 2 ^ 32) % 2 ^ 64 ≡ (w / 2 ^ 32 + v) % 2 ^ 32 * 2 ^ 32 + w % 2 ^ 32
moved_up w v h = omega arith

middle : (P q x y : ℕ) → (q + (x % P + y % P) % P) % P ≡ ((x + q) % P + y) % P
middle P q x y =
    ap (λ (z : ℕ). (q + z) % P) (sym (add-mod x y P))
    ∙ add-mod-mod q (x + y) P
    ∙ ap (λ (z : ℕ). z % P) {x = q + (x + y)} {y = x + q + y} (omega arith)
    ∙ sym (mod-add-mod (x + q) P y)

lower_word : (w x y : ℕ) →
    (w + (x % 2 ^ 32 + y % 2 ^ 32) % 2 ^ 32 * 2 ^ 32) % 2 ^ 64 ≡ ((x + w / 2 ^ 32) % 2 ^ 32 + y) % 2 ^ 32 * 2 ^ 32 + w % 2 ^ 32
lower_word w x y =
    moved_up w ((x % 2 ^ 32 + y % 2 ^ 32) % 2 ^ 32) (omega arith) ∙ ap (λ (z : ℕ). z * 2 ^ 32 + w % 2 ^ 32) (middle (2 ^ 32) (w / 2 ^ 32) x y)

-- the product of two words by that lower word
pub by_words : (a b : ℕ) {lo : ℕ} →
    let w : ℕ = a % 2 ^ 32 * (b % 2 ^ 32) in
    let x : ℕ = a / 2 ^ 32 * (b % 2 ^ 32) in
    let y : ℕ = a % 2 ^ 32 * (b / 2 ^ 32) in
    let t : ℕ = x + w / 2 ^ 32 in
    let m : ℕ = t % 2 ^ 32 + y in
    lo ≡ (w + (x % 2 ^ 32 + y % 2 ^ 32) % 2 ^ 32 * 2 ^ 32) % 2 ^ 64 →
    (a / 2 ^ 32 * (b / 2 ^ 32) + t / 2 ^ 32 + m / 2 ^ 32) * 2 ^ 64 + lo ≡ a * b
by_words a b e =
    let w : ℕ = a % 2 ^ 32 * (b % 2 ^ 32) in
    let x : ℕ = a / 2 ^ 32 * (b % 2 ^ 32) in
    let y : ℕ = a % 2 ^ 32 * (b / 2 ^ 32) in
    let t : ℕ = x + w / 2 ^ 32 in
    let m : ℕ = t % 2 ^ 32 + y in
    ap (λ (l : ℕ). (a / 2 ^ 32 * (b / 2 ^ 32) + t / 2 ^ 32 + m / 2 ^ 32) * 2 ^ 64 + l) (e ∙ lower_word w x y) ∙ whole (2 ^ 32) a b

-- ── the order ──

-- by the lower digits, where the upper ones are the same
pub by_low : (P a₁ a₀ b₁ b₀ : ℕ) → a₁ ≡ b₁ → leb a₀ b₀ ≡ leb (a₁ * P + a₀) (b₁ * P + b₀)
by_low P a₁ a₀ b₁ b₀ e = go (dec_le a₀ b₀)
  where
    go : Dec (a₀ ≤ b₀) → leb a₀ b₀ ≡ leb (a₁ * P + a₀) (b₁ * P + b₀)
    go (yes h) = le-leb a₀ b₀ h ∙ sym (le-leb (a₁ * P + a₀) (b₁ * P + b₀) (rw e (omega arith)))
    go (no f) = lt-leb a₀ b₀ (omega arith) ∙ sym (lt-leb (a₁ * P + a₀) (b₁ * P + b₀) (rw e (omega arith)))

-- by the upper digits, where those differ
pub by_high : (P a₁ a₀ b₁ b₀ : ℕ) → a₀ < P → b₀ < P → (a₁ ≡ b₁ → ⊥) → leb (suc a₁) b₁ ≡ leb (a₁ * P + a₀) (b₁ * P + b₀)
by_high P a₁ a₀ b₁ b₀ h k ne = go (dec_le b₁ a₁)
  where
    go : Dec (b₁ ≤ a₁) → leb (suc a₁) b₁ ≡ leb (a₁ * P + a₀) (b₁ * P + b₀)
    go (yes l) =
        let m : suc b₁ ≤ a₁ = omega arith in
        lt-leb (suc a₁) b₁ (omega arith) ∙ sym (lt-leb (a₁ * P + a₀) (b₁ * P + b₀) (omega (arith, mul-le-mul_right P m)))
    go (no f) =
        let m : suc a₁ ≤ b₁ = omega arith in
        le-leb (suc a₁) b₁ m ∙ sym (le-leb (a₁ * P + a₀) (b₁ * P + b₀) (omega (arith, mul-le-mul_right P m)))

-- ── the upper digit of what is below P² ──

upper : (P x y : ℕ) → x * P + y < P * P → x < P
upper P x y h = lt_of_mul-lt-mul_right P {m = x} {n = P} (omega arith)

pub sum_upper : (P a₁ a₀ b₁ b₀ : ℕ) → a₁ * P + a₀ + (b₁ * P + b₀) < P * P → a₁ + b₁ < P
sum_upper P a₁ a₀ b₁ b₀ h = upper P (a₁ + b₁) (a₀ + b₀) (omega arith)

-- with the carry of the lower digits
pub sum_carried : (P a₁ a₀ b₁ b₀ : ℕ) → a₁ * P + a₀ + (b₁ * P + b₀) < P * P → P ≤ a₀ + b₀ → a₁ + b₁ + 1 < P
sum_carried P a₁ a₀ b₁ b₀ h k = lt_of_mul-lt-mul_right P {m = a₁ + b₁ + 1} {n = P} (omega arith)

pub times_upper : (P q h l : ℕ) → q * (h * P + l) < P * P → q * h < P
times_upper P q h l k = upper P (q * h) (q * l) (omega arith)

-- with the upper digit of q × l
pub times_carried : (P q h l p₁ p₀ : ℕ) → q * (h * P + l) < P * P → p₁ * P + p₀ ≡ q * l → q * h + p₁ < P
times_carried P q h l p₁ p₀ k e = upper P (q * h + p₁) p₀ (omega arith)

-- a multiple by at most A of a number below B is below A × B
pub times_below : (A B q v : ℕ) → 0 < A → q ≤ A → v < B → q * v < A * B
times_below A B q v a h k = lt_of_le_of_lt (mul-le-mul_right v h) (mul-lt-mul_of_pos_left k a)
