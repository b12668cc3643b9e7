-- What the rule makes of two colours in a plane fits its width. Assumes nothing.
use mathlib.Core.Path.{◌≡◌, ◌∙◌}
use mathlib.Core.Bool.{Bool, true, false}
use Prim.Native.Nat.{ℕ, ◌+◌, ◌*◌, ◌-◌, ◌^◌, ◌≤◌, ◌<◌}
use native.Mathlib.Omega.{arith}
use native.Mathlib.Nat.{mul-le-mul, lt_of_le_of_lt}
use lib.IntN.{ℤ, pos, nat_abs, ◌-ℤ◌, ◌*ℤ◌}
use lib.Signed.{lt_z}
use mir.Facts.{to_z-of_z, to_z_pos}
use mir.Syntax.{w32, w64}
use mir.Val.{SFits, to_z, of_z}
use Rattle.wide.proofs.Greatest.{root_lt, square_root_floor}
use Rattle.signed.specs.Apart.{distance, apart}
use Rattle.signed.proofs.Passed.{passed, small_survives}
use Rattle.signed.proofs.Signs.{abs_fits, negated}
use Rattle.cie.specs.declared.Colour.{Colour}
use Rattle.cie.specs.Colour.{square}
use Rattle.cie.specs.Sizes.{Sized}
use Rattle.cie.proofs.Lengths.{square_le}
use Rattle.cie.proofs.Sizes.{apart_size}
use Rattle.hue.specs.declared.plane.PlaneColour.{PlaneColour}
use Rattle.hue.specs.Hue.{chroma_difference, hue_square, hue_size, turn, hue_difference, ab_of, uv_of, shift_of}
use Rattle.hue.specs.InPlane.{InPlane}
use Rattle.hue.proofs.Signs.{product_abs, difference_abs, distance_same, sign_abs, zero_less}

-- ── the planes of a colour ──

pub ab_in : {c : Colour} → Sized c → InPlane (ab_of c)
ab_in s = record { p = omega arith; q = omega arith; chroma = omega arith }

pub uv_in : {c : Colour} → Sized c → InPlane (uv_of c)
uv_in s = record { p = omega arith; q = omega arith; chroma = omega arith }

-- ── the turn ──

-- a product of two coordinates, and the difference of two such products
pub product_small : (x y : ℤ) → nat_abs x < 2 ^ 27 → nat_abs y < 2 ^ 27 → nat_abs (x *ℤ y) ≤ 2 ^ 54
product_small x y h k = omega (arith, product_abs x y, mul-le-mul {n₂ = 2 ^ 27} {m₂ = 2 ^ 27} h k)

module _ {s t : PlaneColour} (S : InPlane s) (T : InPlane t) where
  pub turn_small : nat_abs (turn s t) ≤ 2 ^ 55
  unfolding turn
  turn_small =
      omega (
        arith,
        apart_size (s.p *ℤ t.q) (t.p *ℤ s.q),
        product_small s.p t.q S.p T.q,
        product_small t.p s.q T.p S.q,
      )

  -- the two products, as a program passes them
  module _ {x y : ℤ} (ex : x ≡ passed s.p *ℤ passed t.q) (ey : y ≡ passed t.p *ℤ passed s.q) where
    products_are : (x ≡ s.p *ℤ t.q) × (y ≡ t.p *ℤ s.q)
    products_are = (
      ex ∙ rw (small_survives s.p (omega arith), small_survives t.q (omega arith)),
      ey ∙ rw (small_survives t.p (omega arith), small_survives s.q (omega arith)),
    )

    turn_made : to_z w64 (of_z w64 x) -ℤ to_z w64 (of_z w64 y) ≡ turn s t
    unfolding turn
    turn_made =
        rw (
          products_are.0,
          products_are.1,
          to_z-of_z (abs_fits w64 (s.p *ℤ t.q) (omega (arith, product_small s.p t.q S.p T.q))),
          to_z-of_z (abs_fits w64 (t.p *ℤ s.q) (omega (arith, product_small t.p s.q T.p S.q))),
        )

    turn_fits : SFits w64 (turn s t)
    turn_fits = abs_fits w64 (turn s t) (omega (arith, turn_small))

    pub made_fits : SFits w64 (to_z w64 (of_z w64 x) -ℤ to_z w64 (of_z w64 y))
    made_fits = rw turn_made turn_fits

    pub turn_is : to_z w64 (of_z w64 (to_z w64 (of_z w64 x) -ℤ to_z w64 (of_z w64 y))) ≡ turn s t
    turn_is = rw turn_made (to_z-of_z turn_fits)

  -- ── what is under the root ──

  across_small : square (apart s.p t.p) + square (apart s.q t.q) < 2 ^ 62
  across_small =
      let p : apart s.p t.p ≤ 2 ^ 28 = omega (arith, apart_size s.p t.p) in
      let q : apart s.q t.q ≤ 2 ^ 28 = omega (arith, apart_size s.q t.q) in
      omega (arith, square_le p, square_le q)

  pub size_small : hue_size s t < 2 ^ 31
  unfolding hue_square
  size_small =
      root_lt (hue_size s t) (2 ^ 31) (lt_of_le_of_lt (square_root_floor (hue_square s t)).0 (omega (arith, across_small)))

  -- the three differences, as a program takes them
  module _ {x y z : ℕ} (ex : x ≡ apart (passed s.p) (passed t.p)) (ey : y ≡ apart (passed s.q) (passed t.q))
      (ez : z ≡ distance s.chroma t.chroma) where
    across_is : x * x + y * y ≡ square (apart s.p t.p) + square (apart s.q t.q)
    across_is =
        rw (
          ex,
          ey,
          small_survives s.p (omega arith),
          small_survives t.p (omega arith),
          small_survives s.q (omega arith),
          small_survives t.q (omega arith),
        )

    pub squares_fit : (x * x + y * y < 2 ^ 62) × (z * z < 2 ^ 62)
    squares_fit =
        let h : z ≤ 2 ^ 27 = omega arith in
        (rw across_is across_small, omega (arith, square_le h))

    pub left_is : x * x + y * y - z * z ≡ hue_square s t
    unfolding hue_square chroma_difference
    left_is = rw (across_is, difference_abs t.chroma s.chroma, ez, distance_same t.chroma s.chroma)

  -- ── the two differences ──

  -- a root with its sign, as a program sets it
  module _ {n : ℕ} (e : n ≡ hue_size s t) where
    pub root_small : n < 2 ^ 31
    root_small = rw e size_small

    pub negative_is : {b : Bool} → b ≡ lt_z (turn s t) (pos 0) → b ≡ true → to_z w32 (of_z w32 (pos 0 -ℤ to_z w32 n)) ≡ hue_difference s t
    unfolding hue_difference
    negative_is d h = negated n root_small ∙ zero_less n ∙ rw (e, ← d, h)

    pub positive_is : {b : Bool} → b ≡ lt_z (turn s t) (pos 0) → b ≡ false → to_z w32 n ≡ hue_difference s t
    unfolding hue_difference
    positive_is d h = to_z_pos w32 root_small ∙ rw (e, ← d, h)

  pub chroma_survives : passed (chroma_difference s t) ≡ chroma_difference s t
  unfolding chroma_difference
  chroma_survives = small_survives (pos t.chroma -ℤ pos s.chroma) (omega (arith, difference_abs t.chroma s.chroma))

  pub hue_survives : passed (hue_difference s t) ≡ hue_difference s t
  unfolding hue_difference
  hue_survives = small_survives (hue_difference s t) (omega (arith, sign_abs (turn s t) (hue_size s t), size_small))

-- the four differences of two colours, by those in each plane
module _ {p q : Colour} (P : Sized p) (Q : Sized q) where
  pub shift_is : {a b u v : PlaneColour} {dcab dhab dcuv dhuv : ℤ} → a ≡ ab_of p → b ≡ ab_of q → u ≡ uv_of p → v ≡ uv_of q →
      (dcab ≡ chroma_difference a b) × (dhab ≡ hue_difference a b) → (dcuv ≡ chroma_difference u v) × (dhuv ≡ hue_difference u v) →
      record {
        dcab = record { 0 = passed dcab };
        dhab = record { 0 = passed dhab };
        dcuv = record { 0 = passed dcuv };
        dhuv = record { 0 = passed dhuv };
      }
      ≡ shift_of p q
  unfolding shift_of
  shift_is ea eb eu ev ab uv =
      rw (
        ab.0,
        ab.1,
        uv.0,
        uv.1,
        ea,
        eb,
        eu,
        ev,
        chroma_survives (ab_in P) (ab_in Q),
        hue_survives (ab_in P) (ab_in Q),
        chroma_survives (uv_in P) (uv_in Q),
        hue_survives (uv_in P) (uv_in Q),
      )
