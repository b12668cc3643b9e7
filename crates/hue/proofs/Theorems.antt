-- Standard and trial exchanged: what is under the root is the same in either order, and the sign is set on its root alone. Assumes nothing.
use mathlib.Core.Path.{◌≡◌, sym, ◌∙◌, ap}
use lib.IntN.{neg_ℤ, nat_abs}
use Rattle.wide.specs.Roots.{square_root}
use Rattle.cie.specs.declared.Colour.{Colour}
use Rattle.hue.specs.declared.plane.PlaneColour.{PlaneColour}
use Rattle.hue.specs.Hue.{chroma_difference, hue_square, hue_size, turn, hue_difference, ab_of, uv_of, shift_of}
use Rattle.hue.specs.Claims.{Opposite, Exchanged}
use Rattle.hue.proofs.Signs.{neg_abs, apart_same, difference_turned, sign_abs}

module _ (s t : PlaneColour) where
  chroma_turned : chroma_difference t s ≡ neg_ℤ (chroma_difference s t)
  unfolding chroma_difference
  chroma_turned = difference_turned s.chroma t.chroma

  square_same : hue_square t s ≡ hue_square s t
  unfolding hue_square
  square_same =
      rw (apart_same t.p s.p, apart_same t.q s.q, chroma_turned, neg_abs)

  size_same : nat_abs (hue_difference t s) ≡ nat_abs (hue_difference s t)
  unfolding hue_difference
  size_same = sign_abs (turn t s) (hue_size t s) ∙ ap square_root square_same ∙ sym (sign_abs (turn s t) (hue_size s t))

opposite : (p q : Colour) → Opposite (shift_of p q) (shift_of q p)
unfolding shift_of
opposite p q =
    record {
      cab = chroma_turned (ab_of p) (ab_of q);
      hab = size_same (ab_of p) (ab_of q);
      cuv = chroma_turned (uv_of p) (uv_of q);
      huv = size_same (uv_of p) (uv_of q);
    }

pub exchanged : Exchanged
exchanged = record { chroma = chroma_turned; hue = size_same; colours = opposite }
