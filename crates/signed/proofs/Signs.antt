-- Signed numbers that 32 or 64 bits hold, by their size: what is small enough fits, `abs_fits`. Assumes nothing.
use mathlib.Core.Path.{◌≡◌}
use Prim.Native.Nat.{ℕ, suc, ◌*◌, ◌/◌, ◌^◌, ◌≤◌, ◌<◌}
use native.Mathlib.Nat.{mul-sub}
use native.Mathlib.Omega.{arith}
use lib.IntN.{ℤ, pos, negsuc, nat_abs, ◌-ℤ◌, ◌*ℤ◌}
use lib.Signed.{mag, quot_z}
use mir.Facts.{sfits_widen}
use mir.Syntax.{w32, w64}
use mir.Val.{SFits, to_z, of_z}
use Rattle.std.proofs.lemmas.Int.{ints, to_z-of_z, to_z_pos}
use Rattle.std.proofs.lemmas.Nat.{div_below}
use Rattle.signed.proofs.Parts.{abs_parts, scaled_over, scaled_under}
pub use Rattle.std.proofs.lemmas.Int.{fits_signed_from_abs as abs_fits}

pub mag_le : (z : ℤ) → mag z ≤ nat_abs z
mag_le (pos n) = omega arith
mag_le (negsuc n) = omega arith

-- 0 less a number of 31 bits, as a program takes it
pub negated_fits : (n : ℕ) → n < 2 ^ 31 → SFits w32 (pos 0 -ℤ to_z w32 n)
negated_fits n h = omega (arith, ints)

pub negated : (n : ℕ) → n < 2 ^ 31 → to_z w32 (of_z w32 (pos 0 -ℤ to_z w32 n)) ≡ pos 0 -ℤ pos n
negated n h = omega (arith, ints)

-- n over d, rounded towards zero, fits 32 bits where the size of n is below 2^31 d
pub quotient_fits : (n : ℤ) (d : ℕ) → nat_abs n < 2 ^ 31 * d → SFits w32 (quot_z n (pos d))
quotient_fits (pos m) d h =
    let q : m / d < 2 ^ 31 = div_below m d (2 ^ 31) (omega arith) h in
    abs_fits w32 (pos (m / d)) q
quotient_fits (negsuc m) d h =
    let q : suc m / d < 2 ^ 31 = div_below (suc m) d (2 ^ 31) (omega arith) h in
    omega (arith, ints)

pub quotient_fits_wide : (n : ℤ) (d : ℕ) → nat_abs n < 2 ^ 31 * d → SFits w64 (quot_z n (pos d))
quotient_fits_wide n d h = sfits_widen {w = w32} tt (quotient_fits n d h)

-- that quotient, as a program works it out in 64 bits and takes it in 32
pub ruleset quotients = (quotient_fits, quotient_fits_wide, to_z-of_z, to_z_pos)

-- k (a − b) and its share of d, where k a and k b are below 2^31 d
module _ (k a b d : ℕ) (above : k * a < 2 ^ 31 * d) (below : k * b < 2 ^ 31 * d) where
  pub scaled_small : nat_abs (pos k *ℤ (pos a -ℤ pos b)) < 2 ^ 31 * d
  scaled_small =
      let z = pos k *ℤ (pos a -ℤ pos b) in
      omega (arith, abs_parts z, scaled_over k a b, scaled_under k a b, mul-sub k a b, mul-sub k b a)

  pub scaled_fits : d < 2 ^ 32 → SFits w64 (pos k *ℤ (pos a -ℤ pos b))
  scaled_fits h = abs_fits w64 (pos k *ℤ (pos a -ℤ pos b)) (omega (arith, scaled_small))

  pub share_fits : SFits w32 (quot_z (pos k *ℤ (pos a -ℤ pos b)) (pos d))
  share_fits = quotient_fits (pos k *ℤ (pos a -ℤ pos b)) d scaled_small

  -- the same, as a program works it out in 64 bits
  module _ (hk : k < 2 ^ 32) (ha : a < 2 ^ 32) (hb : b < 2 ^ 32) (hd : d < 2 ^ 32) where
    scaled_made : to_z w64 k *ℤ to_z w64 (of_z w64 (to_z w64 a -ℤ to_z w64 b)) ≡ pos k *ℤ (pos a -ℤ pos b)
    scaled_made =
        let e : to_z w64 (of_z w64 (to_z w64 a -ℤ to_z w64 b)) ≡ pos a -ℤ pos b = omega (arith, ints) in
        rw (e, to_z_pos w64 k (omega arith))

    pub made_fits : SFits w64 (to_z w64 k *ℤ to_z w64 (of_z w64 (to_z w64 a -ℤ to_z w64 b)))
    made_fits = rw scaled_made (scaled_fits hd)

    made_is : to_z w64 (of_z w64 (to_z w64 k *ℤ to_z w64 (of_z w64 (to_z w64 a -ℤ to_z w64 b)))) ≡ pos k *ℤ (pos a -ℤ pos b)
    made_is = rw scaled_made (to_z-of_z w64 (pos k *ℤ (pos a -ℤ pos b)) (scaled_fits hd))

    pub made_small : nat_abs (to_z w64 (of_z w64 (to_z w64 k *ℤ to_z w64 (of_z w64 (to_z w64 a -ℤ to_z w64 b))))) < 2 ^ 31 * d
    made_small = rw made_is scaled_small

    pub made_share : (r : ℤ) → r ≡ quot_z (to_z w64 (of_z w64 (to_z w64 k *ℤ to_z w64 (of_z w64 (to_z w64 a -ℤ to_z w64 b))))) (pos d) →
        to_z w32 (of_z w32 r) ≡ quot_z (pos k *ℤ (pos a -ℤ pos b)) (pos d)
    made_share r e =
        let q : r ≡ quot_z (pos k *ℤ (pos a -ℤ pos b)) (pos d) = rw (← made_is) e in
        rw q (to_z-of_z w32 (quot_z (pos k *ℤ (pos a -ℤ pos b)) (pos d)) share_fits)
