-- A search by halving ends at the last number that passes its test, and that is the root or the quotient rounded down. Assumes nothing.
use Rattle.std.proofs.Common.{◌≡◌, ◌⊎◌, inl, inr, ℕ, zero, suc, ◌+◌, ◌-◌, ◌*◌, ◌/◌, ◌^◌, ◌<◌, ◌≤◌, Bool, true, false, not, ◌&&◌, leb, sym, refl, ap, ◌∙◌, lt_of_mul-lt-mul_right, div-mul-le_self, true≢false, pow-suc, add-one, arith, leb→le, pow_pos, le-leb}
use native.Mathlib.Nat.{div-eq_of_lt-le}
use native.Mathlib.Decide.{dec_le}
use borrow.Author.Tests.{lt-leb}
use lib.Dec.{nleb→lt}
use Rattle.wide.specs.Roots.{Last, LastTold, is_last, square_root, cube_root, quotient_below, square_below, cube_below}
use Rattle.wide.proofs.Greatest.{square_root_is, cube_root_is}

-- what is known of lo, and of the number 2^turns above it, at top or below; half is half of 2^turns, and 0 where that is 1
pub record Halved (low high : ℕ → Type 0) (top lo half : ℕ) : Type 0 where
  pub turns : ℕ
  pub halved : half ≡ 2 ^ turns / 2
  pub within : lo + 2 ^ turns ≤ top
  pub holds : low lo
  pub fails : high (lo + 2 ^ turns)

-- the test holds at lo and fails 2^turns above it
abbrev pub Between : (ℕ → Bool) → ℕ → ℕ → ℕ → Type 0
Between t = Halved (λ x. t x ≡ true) (λ x. t x ≡ false)

-- the test told that lo passes, or lo is 0, and that the number 2^turns above it does not, or that is `top`
abbrev pub BetweenTold : (ℕ → Bool → Type 0) → ℕ → ℕ → ℕ → Type 0
BetweenTold told top = Halved (λ x. (x ≡ 0) ⊎ told x true) (λ x. (x ≡ top) ⊎ told x false) top

-- with a turn left, half is a power of two, and what is known of the upper number is known of the one twice half above lo
record Turn (high : ℕ → Type 0) (top lo half : ℕ) : Type 0 where
  pub rest : ℕ
  pub power : half ≡ 2 ^ rest
  pub within : lo + half + half ≤ top
  pub fails : high (lo + half + half)

-- what is between lo and lo + half, where half is a power of two
half_left : {low high : ℕ → Type 0} {top lo half : ℕ} (n : ℕ) → half ≡ 2 ^ n → lo + half ≤ top → low lo → high (lo + half) →
    Halved low high top lo (half / 2)
half_left n p w h f = record { turns = n; halved = ap (λ (x : ℕ). x / 2) p; within = rw p at w; holds = h; fails = rw p at f }

module _ {low high : ℕ → Type 0} {top lo half : ℕ} (b : Halved low high top lo half) where
  pub lo_below : lo < top
  lo_below = omega (arith, b.within, pow_pos b.turns)

  -- where nothing is left between, the upper number is the next one
  pub next_left : half ≡ 0 → high (suc lo)
  next_left none = go b.turns b.halved b.fails
    where
      go : (n : ℕ) → half ≡ 2 ^ n / 2 → high (lo + 2 ^ n) → high (suc lo)
      go zero e f = rw (add-one lo) at f
      go (suc n) e f = absurd (omega (arith, pow-suc 2 n, pow_pos n))

  module _ (more : 0 < half) where
    turn : Turn high top lo half
    turn = go b.turns b.halved b.within b.fails
      where
        go : (n : ℕ) → half ≡ 2 ^ n / 2 → lo + 2 ^ n ≤ top → high (lo + 2 ^ n) → Turn high top lo half
        go zero e w f = absurd (omega arith)
        go (suc n) e w f =
            let p : half ≡ 2 ^ n = omega (arith, pow-suc 2 n) in
            let s : lo + 2 ^ suc n ≡ lo + half + half = omega (arith, pow-suc 2 n) in
            record { rest = n; power = p; within = rw s at w; fails = rw s at f }

    -- the number in the middle
    pub mid_below : lo + half < top
    mid_below = omega (arith, turn.within)

    -- where it passes, what is above it is left
    pub upper_half : low (lo + half) → Halved low high top (lo + half) (half / 2)
    upper_half h = half_left turn.rest turn.power turn.within h turn.fails

    -- where it does not, what is below it is left
    pub lower_half : high (lo + half) → Halved low high top lo (half / 2)
    lower_half h = half_left turn.rest turn.power (omega (arith, mid_below)) b.holds h

-- where nothing is left between, lo is the last: by a test, and by what a test told
pub between_last : {t : ℕ → Bool} {top lo half : ℕ} → Between t top lo half → half ≡ 0 → Last t lo
between_last b none = record { passes = rw b.holds tt; stops = rw (next_left b none) tt }

pub told_last : {told : ℕ → Bool → Type 0} {top lo half : ℕ} → BetweenTold told top lo half → half ≡ 0 → LastTold told top lo
told_last b none = record { below = lo_below b; passes = b.holds; stops = next_left b none }

-- the last number by what was told, where that is the test t
pub last_told : {told : ℕ → Bool → Type 0} {top r : ℕ} (t : ℕ → Bool) → ((x : ℕ) (b : Bool) → told x b → b ≡ t x) →
    t 0 ≡ true → t top ≡ false → LastTold told top r → Last t r
last_told t is z none l =
    record {
      passes = elim l.passes [ inl e ↦ rw (e, z) tt | inr h ↦ rw (← is _ _ h) tt ];
      stops = elim l.stops [ inl e ↦ rw (e, none) tt | inr h ↦ rw (← is _ _ h) tt ];
    }

-- ── the last number that passes is the quotient or the root ──

pub last_quotient : (n d q : ℕ) → Last (quotient_below n d) q → q ≡ n / d
last_quotient n d q l = sym (div-eq_of_lt-le d (leb→le (q * d) n l.passes) (omega (arith, nleb→lt (suc q * d) n l.stops)))

-- it is as small as n is
pub quotient_small : (n d : ℕ) {q : ℕ} → q ≡ n / d → n < 2 ^ 26 * d → q < 2 ^ 26
quotient_small n d {q} e h = lt_of_mul-lt-mul_right d {m = q} {n = 2 ^ 26} (omega (arith, div-mul-le_self n d, ap (λ (x : ℕ). x * d) e))

pub last_square : (n p : ℕ) → Last (square_below n) p → p ≡ square_root n
last_square n p l = sym (square_root_is n p (leb→le (p * p) n l.passes) (nleb→lt (suc p * suc p) n l.stops))

pub last_cube : (k n d p : ℕ) → 0 < d → Last (cube_below d (k * k * k * n)) p → p ≡ cube_root k n d
last_cube k n d p h l =
    sym (cube_root_is k n d p h (leb→le (p * p * p * d) (k * k * k * n) l.passes) (nleb→lt (suc p * suc p * suc p * d) (k * k * k * n) l.stops))

-- ── a guess that two comparisons show right ──

-- it passes, and the number after it does not
pub last_shown : (t : ℕ → Bool) (p : ℕ) → is_last t p ≡ true → Last t p
last_shown t p e = go (t p) (t (p + 1)) refl refl e
  where
    go : (a b : Bool) → t p ≡ a → t (p + 1) ≡ b → (a && not b) ≡ true → Last t p
    go true false f g h = record { passes = rw f tt; stops = rw (rw (add-one p) at g) tt }
    go true true f g h = absurd (true≢false (sym h))
    go false b f g h = absurd (true≢false (sym h))

-- how a program tells: by its test of p, and then by one that says whether the number after p fails
pub is_last_lem : (t : ℕ → Bool) (p : ℕ) {a b : Bool} → a ≡ t p → a ≡ true → b ≡ not (t (p + 1)) → b ≡ is_last t p
is_last_lem t p e f g = rw (sym e ∙ f) g

pub not_last : (t : ℕ → Bool) (p : ℕ) {a : Bool} → a ≡ t p → a ≡ false → false ≡ is_last t p
not_last t p e f = rw (sym e ∙ f) refl

-- the square of the number after p is above n where p² leaves at most 2 p of n
pub square_left : (n p : ℕ) → p * p ≤ n → leb (n - p * p) (2 * p) ≡ not (square_below n (p + 1))
square_left n p h = go (dec_le (n - p * p) (2 * p))
  where
    go : Dec (n - p * p ≤ 2 * p) → leb (n - p * p) (2 * p) ≡ not (square_below n (p + 1))
    go (yes k) = le-leb (n - p * p) (2 * p) k ∙ ap not (sym (lt-leb ((p + 1) * (p + 1)) n (omega arith)))
    go (no k) = lt-leb (n - p * p) (2 * p) (omega arith) ∙ ap not (sym (le-leb ((p + 1) * (p + 1)) n (omega arith)))
