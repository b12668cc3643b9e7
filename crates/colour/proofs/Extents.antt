-- How large the coordinates of a colour are, so that its words hold them and the squares of a difference add up to one word. Assumes nothing.
use mathlib.Core.Path.{◌≡◌}
use Prim.Native.Nat.{ℕ, ◌^◌, ◌≤◌, ◌<◌}
use native.Mathlib.Omega.{arith}
use lib.IntN.{ℤ, nat_abs}
use lib.Signed.{mag}
use Rattle.signed.specs.Apart.{distance, apart}
use Rattle.signed.proofs.Passed.{passed, survives, small_survives}
use Rattle.cie.specs.declared.Colour.{Colour}
use Rattle.std.specs.Prelude.{Option}
use Rattle.cie.specs.declared.Chromaticity.{Chromaticity}
use Rattle.cie.specs.declared.Sums.{Sums}
use Rattle.cie.specs.declared.Tristimulus.{Tristimulus}
use Rattle.cie.specs.Sums.{White, AtMostTwice}
use Rattle.cie.specs.Sizes.{Sized}
use Rattle.cie.specs.Colour.{tristimulus_of, chromaticity_of, l_at, a_at, b_at, u_of, v_of, chroma, squares, colour_of}
use Rattle.colour.specs.declared.difference.Place.{Place}
use Rattle.colour.specs.declared.Coordinates.{Coordinates}
use Rattle.colour.specs.Coordinates.{coordinates_in}
use Rattle.colour.specs.Places.{squares_between}
use Rattle.cie.proofs.Sizes.{a_size, b_size, u_size, v_size, apart_size, luv_squares}

-- the coordinates of a colour, as a program has them
pub coordinates_are : (w s : Sums) → White w → AtMostTwice w s → (l : ℕ) (a b u v : ℤ) →
    l ≡ l_at 1 w s → (a ≡ a_at 1 w s) × (b ≡ b_at 1 w s) → (u ≡ u_of w s) × (v ≡ v_of w s) →
    record { l = l; a = passed a; b = passed b; u = passed u; v = passed v } ≡ coordinates_in (colour_of w s)
unfolding colour_of
coordinates_are w s W S l a b u v el eab euv =
    rw (
      small_survives a (rw eab.0 (omega (arith, a_size W S))),
      small_survives b (rw eab.1 (omega (arith, b_size W S))),
      small_survives u (rw euv.0 (omega (arith, u_size W S))),
      small_survives v (rw euv.1 (omega (arith, v_size W S))),
      el,
      eab.0,
      eab.1,
      euv.0,
      euv.1,
    )

-- the whole colour, by its coordinates k
pub colour_is : (w s : Sums) → White w → AtMostTwice w s → (t : Tristimulus) (c : Option Chromaticity) (k : Coordinates) (cab cuv : ℕ) →
    t ≡ tristimulus_of w s → c ≡ chromaticity_of s → k ≡ coordinates_in (colour_of w s) →
    cab ≡ chroma (passed k.a) (passed k.b) → cuv ≡ chroma (passed k.u) (passed k.v) →
    record { tristimulus = t; chromaticity = c; l = k.l; a = passed k.a; b = passed k.b; u = passed k.u; v = passed k.v; cab = cab; cuv = cuv }
    ≡ colour_of w s
unfolding colour_of
colour_is w s W S t c k cab cuv et ec ek f g =
    rw (
      f,
      g,
      ek,
      small_survives (a_at 1 w s) (omega (arith, a_size W S)),
      small_survives (b_at 1 w s) (omega (arith, b_size W S)),
      small_survives (u_of w s) (omega (arith, u_size W S)),
      small_survives (v_of w s) (omega (arith, v_size W S)),
      et,
      ec,
    )

-- ── the length of a difference ──

-- L and a pair of coordinates, in either space
pub record Within (l : ℕ) (p q : ℤ) : Type 0 where
  pub l_within : l ≤ 1301508
  pub p_within : nat_abs p ≤ 67678416
  pub q_within : nat_abs q ≤ 10412064

pub lab_within : {c : Colour} → Sized c → Within c.l c.a c.b
lab_within C = record { l_within = omega arith; p_within = omega arith; q_within = omega arith }

pub luv_within : {c : Colour} → Sized c → Within c.l c.u c.v
luv_within C = record { l_within = omega arith; p_within = omega arith; q_within = omega arith }

-- the three differences of two places whose coordinates fit 32 bits, as a program takes them
pub squares_of_lem : (m n : Place) (x y z : ℕ) → mag m.p < 2 ^ 31 → mag n.p < 2 ^ 31 → mag m.q < 2 ^ 31 → mag n.q < 2 ^ 31 →
    x ≡ distance m.l n.l → y ≡ apart (passed m.p) (passed n.p) → z ≡ apart (passed m.q) (passed n.q) →
    squares x y z ≡ squares_between m n
squares_of_lem m n x y z mp np mq nq e f g = rw (e, f, g, survives {z = m.p} mp, survives {z = n.p} np, survives {z = m.q} mq, survives {z = n.q} nq)

pub squares_fit : {l m : ℕ} {p q r s : ℤ} → Within l p q → Within m r s → squares (distance l m) (apart p r) (apart q s) < 2 ^ 64
squares_fit {l} {m} {p} {q} {r} {s} A B =
    omega (
      arith,
      luv_squares (distance l m) (apart p r) (apart q s) (omega arith) (omega (arith, apart_size p r)) (omega (arith, apart_size q s)),
    )
