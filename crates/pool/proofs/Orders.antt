-- Spots in any order: what is added up or sought among them does not go by their order. Assumes nothing.
use mathlib.Core.Path.{◌≡◌, refl, sym, ap, ◌∙◌}
use mathlib.Core.Bool.{Bool, false, ◌||◌, or_assoc, or_comm}
use mathlib.Core.List.Permᴰ
use mathlib.Core.List.{List, [], ◌∷◌, foldr, flatten, Permᴰ}
use Prim.Native.Nat.{ℕ, zero, suc, ◌+◌, ◌/◌}
use native.Mathlib.Omega.{arith}
use lib.ListN.{length, get_or}
use Rattle.cie.specs.Scales.{any_above}
use Rattle.cie.proofs.Scales.{above_append}
use Rattle.pool.specs.Spots.{at_row, sum_of, pooled_reading, pooled_from}

-- a fold in which two neighbours may change places
module _ {A B : Type 0} (f : A → B → B) (change : (a b : A) (x : B) → f a (f b x) ≡ f b (f a x)) (last : B) where
  fold_order : {ts us : List A} → Permᴰ ts us → foldr f last ts ≡ foldr f last us
  fold_order Permᴰ.nil = refl
  fold_order (Permᴰ.cons e d) = λ i. f (e i) (fold_order d i)
  fold_order (Permᴰ.swap {a} {b} {l = ts} e g) = change a b (foldr f last ts) ∙ (λ i. f (g i) (f (e i) (foldr f last ts)))
  fold_order (Permᴰ.trans d e) = fold_order d ∙ fold_order e

sum_order : {rs us : List ℕ} → Permᴰ rs us → sum_of rs ≡ sum_of us
unfolding sum_of
sum_order d = fold_order ◌+◌ (λ a b x. omega arith) 0 d

-- of as many readings, in any order
pooled_order : {rs us : List ℕ} → length rs ≡ length us → Permᴰ rs us → pooled_reading rs ≡ pooled_reading us
unfolding pooled_reading
pooled_order {rs} {us} n d = λ i. (sum_order d i + n i / 2) / n i

module _ {ts us : List (List ℕ)} (n : (row : ℕ) → length (at_row ts row) ≡ length (at_row us row)) (d : Permᴰ ts us) where
  pub spectrum_order : (row k : ℕ) → pooled_from ts row k ≡ pooled_from us row k
  unfolding pooled_from Permᴰ.map
  spectrum_order row zero = refl
  spectrum_order row (suc k) =
      λ i. pooled_order (n row) (Permᴰ.map (λ (spot : List ℕ). get_or spot row 0) d) i ∷ spectrum_order (suc row) k i

-- whether a reading of some spots is above a limit
module _ (limit : ℕ) where
  abbrev bright_in : List ℕ → Bool → Bool
  bright_in spot others = any_above limit spot || others

  bright_change : (s t : List ℕ) (b : Bool) → bright_in s (bright_in t b) ≡ bright_in t (bright_in s b)
  bright_change s t b =
      let p = any_above limit s in
      let q = any_above limit t in
      sym (or_assoc p q b) ∙ ap (λ (x : Bool). x || b) (or_comm p q) ∙ or_assoc q p b

  above_spots : (ts : List (List ℕ)) → any_above limit (flatten ts) ≡ foldr bright_in false ts
  unfolding flatten any_above
  above_spots [] = refl
  above_spots (t ∷ ts) = above_append limit t (flatten ts) ∙ ap (bright_in t) (above_spots ts)

  pub above_order : {ts us : List (List ℕ)} → Permᴰ ts us → any_above limit (flatten ts) ≡ any_above limit (flatten us)
  above_order {ts} {us} d = above_spots ts ∙ fold_order bright_in bright_change false d ∙ sym (above_spots us)
