-- Laws of sums: that weights give the paper's, how they grow by a row, and how readings bound them. Assumes nothing.
use mathlib.Core.Path.{◌≡◌, refl, ap, ◌∙◌}
use mathlib.Core.Bool.{false}
use mathlib.Core.List.{List, [], ◌∷◌, ◌++◌}
use Prim.Native.Nat.{ℕ, zero, suc, ◌+◌, ◌-◌, ◌*◌, ◌^◌, ◌≤◌, ◌<◌}
use native.Mathlib.Omega.{arith}
use native.Mathlib.Nat.{mul-le-mul, mul_assoc}
use native.Mathlib.Numerals.{add-one}
use lib.ListN.{length, get_or, drop, replicate, get_or-replicate}
use lib.Seq.{drop-cons, drop-length}
use Rattle.cie.specs.declared.Sums.{Sums}
use Rattle.cie.specs.Spacing.{most_rows, filled}
use Rattle.cie.specs.Scales.{reader_limit, white_reading, illuminant_limit, column_limit, any_above}
use Rattle.cie.specs.Sums.{Tables, row_sum, sums_of, white_of, with_row, AtMostTwice}
use Rattle.cie.proofs.Scales.{below}
use Rattle.cie.proofs.Ordered.{row_sum_times}
use Rattle.conditions.specs.Weights.{products_of, weights_of, dot, dots, Spectrum, Weights, row_limit, Summed, Begun}

-- ── the paper's sums ──

products_sum : (r i c : List ℕ) → dot r (products_of i c) ≡ row_sum r i c
unfolding dot products_of row_sum
products_sum [] i c = refl
products_sum (r ∷ rs) [] c = refl
products_sum (r ∷ rs) (i ∷ is) [] = refl
products_sum (r ∷ rs) (i ∷ is) (c ∷ cs) = rw (products_sum rs is cs, mul_assoc r i c)

zeros_sum : (rs : List ℕ) (n : ℕ) → dot rs (replicate n 0) ≡ 0
unfolding dot
zeros_sum [] n = refl
zeros_sum (r ∷ rs) zero = refl
zeros_sum (r ∷ rs) (suc n) = omega (arith, zeros_sum rs n)

-- zeros at the end add nothing
ends_in_zeros : (rs ws : List ℕ) (n : ℕ) → dot rs (ws ++ replicate n 0) ≡ dot rs ws
unfolding dot
ends_in_zeros [] ws n = refl
ends_in_zeros (r ∷ rs) [] n = zeros_sum (r ∷ rs) n
ends_in_zeros (r ∷ rs) (w ∷ ws) n = ap (λ (k : ℕ). r * w + k) (ends_in_zeros rs ws n)

-- the sum by weights is the sum over the rows
pub row_sum_lem : (r i c : List ℕ) → dot r (weights_of i c) ≡ row_sum r i c
unfolding weights_of filled
row_sum_lem r i c = ends_in_zeros r (products_of i c) (most_rows - length (products_of i c)) ∙ products_sum r i c

pub sums_same : (t : Tables) (r : List ℕ) →
    dots (weights_of t.illuminant t.x) (weights_of t.illuminant t.y) (weights_of t.illuminant t.z) r ≡ sums_of t r
unfolding sums_of
sums_same t r = simp row_sum_lem

-- ── row by row ──

dot_more : (rs ws : List ℕ) (i : ℕ) → i < length rs → i < length ws →
    dot (drop i rs) (drop i ws) ≡ get_or rs i 0 * get_or ws i 0 + dot (drop (i + 1) rs) (drop (i + 1) ws)
unfolding dot
dot_more rs ws i h k = rw (add-one, drop-cons rs i 0, drop-cons ws i 0)

product : {rs ws : List ℕ} → Spectrum rs → Weights ws → (i : ℕ) → get_or rs i 0 * get_or ws i 0 ≤ row_limit
product {rs} {ws} r w i = mul-le-mul (below reader_limit rs i r.scale) (below (illuminant_limit * column_limit) ws i w.scale)

pub summed_none : (rs ws : List ℕ) → Summed rs ws 0 0
summed_none rs ws = record { upto = omega arith; left = omega arith }

module _ {rs ws : List ℕ} {sum i : ℕ} (r : Spectrum rs) (w : Weights ws) (s : Summed rs ws sum i) where
  pub summed_fits : i < length rs → sum + get_or rs i 0 * get_or ws i 0 < 2 ^ 64
  summed_fits h = omega (arith, product r w i)

  pub summed_more : i < length rs → Summed rs ws (sum + get_or rs i 0 * get_or ws i 0) (i + 1)
  summed_more h =
      let k : i < length ws = omega (arith, r.few, w.length_is) in
      record {
        upto = omega (arith, s.upto, product r w i);
        left = omega (arith, dot_more rs ws i h k, s.left);
      }

  pub summed_all : i ≡ length rs → sum ≡ dot rs ws
  unfolding dot
  summed_all e =
      let z : dot (drop i rs) (drop i ws) ≡ 0 = rw (e, drop-length) in
      omega (arith, s.left)

module _ {rs x y z : List ℕ} where
  pub begun_none : Spectrum rs × Weights x × Weights y × Weights z → Begun rs x y z (record { x = 0; y = 0; z = 0 }) 0
  begun_none p =
      record {
        spectrum = p.0;
        weights_x = p.1;
        weights_y = p.2;
        weights_z = p.3;
        in_x = summed_none rs x;
        in_y = summed_none rs y;
        in_z = summed_none rs z;
      }

  -- the same rows, counted another way
  pub begun_at : {s : Sums} {i j : ℕ} → i ≡ j → Begun rs x y z s i → Begun rs x y z s j
  begun_at e b = rw e at b

  module _ {s : Sums} {i : ℕ} (b : Begun rs x y z s i) where
    pub begun_fits : i < length rs →
        (s.x + get_or rs i 0 * get_or x i 0 < 2 ^ 64) × (s.y + get_or rs i 0 * get_or y i 0 < 2 ^ 64) × (s.z + get_or rs i 0 * get_or z i 0 < 2 ^ 64)
    begun_fits h =
        let r = b.spectrum in
        (summed_fits r b.weights_x b.in_x h, summed_fits r b.weights_y b.in_y h, summed_fits r b.weights_z b.in_z h)

    pub begun_more : {t : Sums} {j : ℕ} → i < length rs → t ≡ with_row s (get_or rs i 0) (get_or x i 0) (get_or y i 0) (get_or z i 0) → i + 1 ≡ j →
        Begun rs x y z t j
    begun_more h e f =
        let r = b.spectrum in
        begun_at f
        (rw e
        (record {
          spectrum = r;
          weights_x = b.weights_x;
          weights_y = b.weights_y;
          weights_z = b.weights_z;
          in_x = summed_more r b.weights_x b.in_x h;
          in_y = summed_more r b.weights_y b.in_y h;
          in_z = summed_more r b.weights_z b.in_z h;
        }))

    pub begun_all : i ≡ length rs → s ≡ dots x y z rs
    begun_all e =
        let r = b.spectrum in
        rw (summed_all r b.weights_x b.in_x e, summed_all r b.weights_y b.in_y e, summed_all r b.weights_z b.in_z e)

-- ── how readings bound sums ──

-- a sum by weights is one over the rows, by a column of ones
dot_sum : (rs ws : List ℕ) → dot rs ws ≡ row_sum rs ws (replicate (length ws) 1)
unfolding dot row_sum
dot_sum [] ws = refl
dot_sum (r ∷ rs) [] = refl
dot_sum (r ∷ rs) (w ∷ ws) = omega (arith, dot_sum rs ws)

-- no reading above the reader's limit: twice the white's, over any number of rows
row_sum_twice : (n : ℕ) (rs is cs : List ℕ) → length is ≤ n → any_above reader_limit rs ≡ false →
    row_sum rs is cs ≤ 2 * row_sum (replicate n white_reading) is cs
row_sum_twice n rs is cs l h =
    row_sum_times 2 rs (replicate n white_reading) is cs
    (λ row j. omega (arith, below reader_limit rs row h, get_or-replicate n row white_reading 0 (omega arith)))

pub twice : (n : ℕ) (rs ws : List ℕ) → length ws ≤ n → any_above reader_limit rs ≡ false → dot rs ws ≤ 2 * dot (replicate n white_reading) ws
twice n rs ws l h =
    omega (arith, row_sum_twice n rs ws (replicate (length ws) 1) l h, dot_sum rs ws, dot_sum (replicate n white_reading) ws)

pub at_most_twice : (t : Tables) (readings : List ℕ) → any_above reader_limit readings ≡ false → AtMostTwice (white_of t) (sums_of t readings)
unfolding sums_of white_of
at_most_twice t readings h =
    let is = t.illuminant in
    record {
      x = row_sum_twice (length is) readings is t.x (omega arith) h;
      y = row_sum_twice (length is) readings is t.y (omega arith) h;
      z = row_sum_twice (length is) readings is t.z (omega arith) h;
    }
