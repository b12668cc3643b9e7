-- What `greatest` finds, and that the roots rounded down are the only numbers of their kind: squares and cubes keep the order. Assumes nothing.
use Rattle.std.proofs.Common.{◌≡◌, ℕ, zero, suc, ◌+◌, ◌*◌, ◌/◌, ◌<◌, ◌≤◌, Bool, true, false, not, T, leb, refl, le_of_suc-le-suc, lt_of_le_of_lt, mul-le-mul_right, mul-le-mul, le_antisymm, mul-le-mul_left, lt_of_not-le, arith, le→leb, leb→le}
use native.Mathlib.Nat.{lt-div-mul-add}
use native.Mathlib.Decide.{dec_le}
use lib.Dec.{nleb→lt, not_T}
use Rattle.wide.specs.Roots.{Last, next_bit, climb, greatest, square_below, cube_below, square_root, cube_root}

-- ── the greatest number that passes a test ──

next_bit_last : (t : ℕ → Bool) (q : ℕ) → T (t (2 * q)) → T (not (t (2 * suc q))) → Last t (next_bit t q)
unfolding next_bit
next_bit_last t q h k = go (t (2 * q + 1)) refl
  where
    go : (b : Bool) → t (2 * q + 1) ≡ b → Last t (elim b [ true ↦ 2 * q + 1 | false ↦ 2 * q ])
    go true e = let s : suc (2 * q + 1) ≡ 2 * suc q = omega arith in record { passes = rw e tt; stops = rw s k }
    go false e = let s : suc (2 * q) ≡ 2 * q + 1 = omega arith in record { passes = h; stops = rw (s, e) tt }

climb_last : (fuel : ℕ) (t : ℕ → Bool) (top : ℕ) → top ≤ fuel → T (t 0) → ((p : ℕ) → T (t p) → p ≤ top) → Last t (climb fuel t top)
unfolding climb
climb_last zero t top h z up = record { passes = z; stops = not_T (t 1) (λ x. omega (arith, up 1 x)) }
climb_last (suc fuel) t top h z up =
    go (leb 1 top) refl (climb_last fuel (λ p. t (2 * p)) (top / 2) (omega arith) z (λ p x. omega (arith, up (2 * p) x)))
  where
    go : (b : Bool) → leb 1 top ≡ b → Last (λ p. t (2 * p)) (climb fuel (λ p. t (2 * p)) (top / 2)) →
        Last t (elim b [ true ↦ next_bit t (climb fuel (λ p. t (2 * p)) (top / 2)) | false ↦ 0 ])
    go true e l = next_bit_last t (climb fuel (λ p. t (2 * p)) (top / 2)) l.passes l.stops
    go false e l = record { passes = z; stops = not_T (t 1) (λ x. rw e at (le→leb 1 top (up 1 x))) }

pub greatest_last : (t : ℕ → Bool) (top : ℕ) → T (t 0) → ((p : ℕ) → T (t p) → p ≤ top) → Last t (greatest t top)
unfolding greatest
greatest_last t top z up = climb_last top t top (omega arith) z up

-- ── squares and cubes keep the order ──

pub root_le : (a b : ℕ) → a * a ≤ b * b → a ≤ b
root_le a b h = elim (dec_le a b) [ yes x ↦ x | no x ↦ absurd (omega (arith, mul-le-mul (lt_of_not-le x) (lt_of_not-le x))) ]

pub root_lt : (a b : ℕ) → a * a < b * b → a < b
root_lt a b h = elim (dec_le b a) [ yes x ↦ absurd (omega (arith, mul-le-mul x x)) | no x ↦ lt_of_not-le x ]

-- the square and the cube of a number under a bound
pub cubes : (p q : ℕ) → p ≤ q → (p * p ≤ q * q) × (p * p * p ≤ q * q * q)
cubes p q h = (mul-le-mul h h, mul-le-mul (mul-le-mul h h) h)

pub cube_le : {p q : ℕ} (D : ℕ) → p ≤ q → p * p * p * D ≤ q * q * q * D
cube_le D h = mul-le-mul_right D (cubes _ _ h).1

pub cube_lt : (p q D : ℕ) → p * p * p * D < q * q * q * D → p < q
cube_lt p q D h = elim (dec_le q p) [ yes x ↦ absurd (omega (arith, cube_le D x)) | no x ↦ lt_of_not-le x ]

-- ── the roots rounded down ──

pub square_root_floor : (n : ℕ) → (square_root n * square_root n ≤ n) × (n < suc (square_root n) * suc (square_root n))
unfolding square_root
square_root_floor n =
    let l = greatest_last (square_below n) n (le→leb 0 n (omega arith)) up in
    (leb→le _ _ l.passes, nleb→lt _ _ l.stops)
  where
    up : (p : ℕ) → T (square_below n p) → p ≤ n
    up zero x = omega arith
    up (suc p) x = omega (arith, leb→le (suc p * suc p) n x)

-- it is at least each number whose square passes
pub square_root_above : (n p : ℕ) → p * p ≤ n → p ≤ square_root n
square_root_above n p h = le_of_suc-le-suc (root_lt p (suc (square_root n)) (lt_of_le_of_lt h (square_root_floor n).1))

pub square_root_is : (n p : ℕ) → p * p ≤ n → n < suc p * suc p → square_root n ≡ p
square_root_is n p h k =
    le_antisymm (le_of_suc-le-suc (root_lt (square_root n) (suc p) (lt_of_le_of_lt (square_root_floor n).0 k))) (square_root_above n p h)

pub cube_root_floor : (K N D : ℕ) → 0 < D →
    (cube_root K N D * cube_root K N D * cube_root K N D * D ≤ K * K * K * N)
    × (K * K * K * N < suc (cube_root K N D) * suc (cube_root K N D) * suc (cube_root K N D) * D)
unfolding cube_root
cube_root_floor K N D d =
    let l = greatest_last (cube_below D (K * K * K * N)) (K * suc (N / D)) (le→leb (0 * 0 * 0 * D) (K * K * K * N) (omega arith)) up in
    (leb→le _ _ l.passes, nleb→lt _ _ l.stops)
  where
    up : (p : ℕ) → T (cube_below D (K * K * K * N) p) → p ≤ K * suc (N / D)
    up p x = omega (
      arith,
      cube_lt p (suc (K * suc (N / D))) D
          (omega (arith, leb→le (p * p * p * D) (K * K * K * N) x, mul-le-mul_left (K * K * K) (lt-div-mul-add {a = N} d))),
    )

-- it is at least each number whose cube passes
pub cube_root_above : (K N D p : ℕ) → 0 < D → p * p * p * D ≤ K * K * K * N → p ≤ cube_root K N D
cube_root_above K N D p d h = le_of_suc-le-suc (cube_lt p (suc (cube_root K N D)) D (lt_of_le_of_lt h (cube_root_floor K N D d).1))

pub cube_root_is : (K N D p : ℕ) → 0 < D → p * p * p * D ≤ K * K * K * N → K * K * K * N < suc p * suc p * suc p * D → cube_root K N D ≡ p
cube_root_is K N D p d h k =
    le_antisymm (le_of_suc-le-suc (cube_lt (cube_root K N D) (suc p) D (lt_of_le_of_lt (cube_root_floor K N D d).0 k))) (cube_root_above K N D p d h)
