-- The shades from a key on: where numbers rise, the list in order rises strictly by keys, so those from a key on begin with the least.
-- Assumes nothing.
use mathlib.Core.Path.{◌≡◌, refl, sym, ap, ◌∙◌}
use mathlib.Core.Bool.{Bool, true, false, cond}
use mathlib.Core.Logic.{◌⊎◌, inl, inr, ⊎_elim}
use mathlib.Core.List.Memᴰ
use mathlib.Core.List.{List, [], ◌∷◌}
use Rattle.std.specs.Prelude.{None}
use Prim.Native.Nat.{ℕ, zero, suc, ◌+◌, ◌≤◌, ◌<◌}
use native.Mathlib.Omega.{arith}
use lib.Dec.{leb, ltb}
use lib.ListN.{length, get_or, length-map, get_or-map}
use borrow.Author.Tests.{ltb-true, ltb-false, leb-true, leb-false, le-leb, lt-leb}
use Rattle.nearest.specs.Rule.{Shade, sooner, insert, in_order}
use Rattle.nearest.specs.Claims.{In}
use Rattle.nearest.specs.Order.{number_range, shade_key, keys_of, IsNext, NextIs}
use Rattle.nearest.proofs.Sorted.{in_insert, in_order_lem, order_in, sooner_true, NotSooner, sooner_false}

-- ── shades by their places ──

abbrev pub no_shade : Shade
no_shade = record { difference = 0; number = 0; e = 0 }

abbrev pub shade_at : List Shade → ℕ → Shade
shade_at ss i = get_or ss i no_shade

pub key_at : (ss : List Shade) (i : ℕ) → get_or (keys_of ss) i 0 ≡ shade_key (shade_at ss i)
key_at ss i = get_or-map shade_key ss i no_shade

pub keys_length : (ss : List Shade) → length (keys_of ss) ≡ length ss
keys_length ss = length-map ss shade_key

pub shade_in : (ss : List Shade) (i : ℕ) → i < length ss → In (shade_at ss i) ss
shade_in [] i h = absurd (omega arith)
shade_in (s ∷ ss) zero h = Memᴰ.head refl
shade_in (s ∷ ss) (suc i) h = Memᴰ.tail (shade_in ss i (omega arith))

pub record Placed (ss : List Shade) (s : Shade) : Type 0 where
  pub i : ℕ
  pub below : i < length ss
  pub at : s ≡ shade_at ss i

pub placed : (ss : List Shade) (s : Shade) → In s ss → Placed ss s
placed [] s m = absurd (Memᴰ.not-nil m)
placed (x ∷ xs) s m =
    ⊎_elim (λ p. record { i = 0; below = omega arith; at = p })
    (λ q. let r = placed xs s q in record { i = suc r.i; below = omega (arith, r.below); at = r.at }) (Memᴰ.cases_cons m)

-- ── numbers that rise ──

-- numbers of 16 bits that rise strictly from above one
pub data Rising : ℕ → List Shade → Type 0 where
  none : {before : ℕ} → Rising before []
  more : {before : ℕ} {s : Shade} {ss : List Shade} → before < s.number → s.number < number_range → Rising s.number ss → Rising before (s ∷ ss)

pub small_number : {before : ℕ} (ss : List Shade) → Rising before ss → (s : Shade) → In s ss → s.number < number_range
small_number [] none s m = absurd (Memᴰ.not-nil m)
small_number (x ∷ xs) (more h k r) s m = ⊎_elim (λ p. rw p k) (λ q. small_number xs r s q) (Memᴰ.cases_cons m)

above : {before : ℕ} (ss : List Shade) → Rising before ss → (s : Shade) → In s ss → before < s.number
above [] none s m = absurd (Memᴰ.not-nil m)
above (x ∷ xs) (more h k r) s m = ⊎_elim (λ p. rw p h) (λ q. omega (arith, h, above xs r s q)) (Memᴰ.cases_cons m)

-- ── keys that rise strictly ──

data Strict : List Shade → Type 0 where
  none : Strict []
  more : {x : Shade} {xs : List Shade} → ((s : Shade) → In s xs → shade_key x < shade_key s) → Strict xs → Strict (x ∷ xs)

later : (s t : Shade) → s.number < t.number → t.number < number_range → sooner s t ≡ false → shade_key t < shade_key s
later s t h k e = go (ltb t.difference s.difference) refl
  where
    n : NotSooner s t
    n = sooner_false s t e

    go : (b : Bool) → ltb t.difference s.difference ≡ b → shade_key t < shade_key s
    go true p = omega (arith, ltb-true t.difference s.difference p)
    go false p = absurd (omega (arith, n.ties (omega (arith, n.falls, ltb-false t.difference s.difference p))))

strict_insert : (s : Shade) (ts : List Shade) → ((t : Shade) → In t ts → t.number < number_range) →
    ((t : Shade) → In t ts → s.number < t.number) → Strict ts → Strict (insert s ts)
unfolding insert
strict_insert s [] u h r = more {x = s} (λ x m. absurd (Memᴰ.not-nil m)) none
strict_insert s (t ∷ ts) u h (more k r) =
    go (strict_insert s ts (λ x m. u x (Memᴰ.tail m)) (λ x m. h x (Memᴰ.tail m)) r) (sooner s t) refl
  where
    go : Strict (insert s ts) → (b : Bool) → sooner s t ≡ b → Strict (cond b (s ∷ (t ∷ ts)) (t ∷ insert s ts))
    go next true e =
        let a = (sooner_true s t e).rises in
        let b = h t (Memᴰ.head refl) in
        let l : shade_key s < shade_key t = omega arith in
        more {x = s} {xs = t ∷ ts} (λ x m. ⊎_elim (λ p. rw p l) (λ q. omega (arith, k x q, l)) (Memᴰ.cases_cons m)) (more k r)
    go next false e =
        let l : shade_key t < shade_key s = later s t (h t (Memᴰ.head refl)) (u t (Memᴰ.head refl)) e in
        more {x = t} {xs = insert s ts} (λ x m. ⊎_elim (λ p. rw p l) (λ q. k x q) (Memᴰ.cases_cons (in_insert s x ts m))) next

strict_order : {before : ℕ} (ss : List Shade) → Rising before ss → Strict (in_order ss)
unfolding in_order
strict_order [] none = none
strict_order (s ∷ ss) (more h k r) =
    strict_insert s (in_order ss)
    (λ t m. small_number ss r t (in_order_lem t ss m))
    (λ t m. above ss r t (in_order_lem t ss m))
    (strict_order ss r)

-- ── the shades from a key on ──

unfoldable pub remaining : ℕ → List Shade → List Shade
remaining from [] = []
remaining from (s ∷ ss) = cond (leb from (shade_key s)) (s ∷ remaining from ss) (remaining from ss)

remaining_none : (from : ℕ) (ss : List Shade) → ((s : Shade) → In s ss → shade_key s < from) → remaining from ss ≡ []
unfolding remaining
remaining_none from [] h = refl
remaining_none from (s ∷ ss) h =
    rw (lt-leb from (shade_key s) (h s (Memᴰ.head refl))) (remaining_none from ss (λ x m. h x (Memᴰ.tail m)))

pub remaining_all : (from : ℕ) (ss : List Shade) → ((s : Shade) → In s ss → from ≤ shade_key s) → remaining from ss ≡ ss
unfolding remaining
remaining_all from [] h = refl
remaining_all from (s ∷ ss) h =
    rw (le-leb from (shade_key s) (h s (Memᴰ.head refl)))
    (ap (λ (l : List Shade). s ∷ l) (remaining_all from ss (λ x m. h x (Memᴰ.tail m))))

remaining_least : (from : ℕ) (x : Shade) (ss : List Shade) → Strict ss → In x ss → from ≤ shade_key x →
    ((s : Shade) → In s ss → from ≤ shade_key s → shade_key x ≤ shade_key s) → remaining from ss ≡ x ∷ remaining (shade_key x + 1) ss
unfolding remaining
remaining_least from x [] r m f h = absurd (Memᴰ.not-nil m)
remaining_least from x (s ∷ ss) (more k r) m f h =
    go (λ n. remaining_least from x ss r n f (λ y q. h y (Memᴰ.tail q))) (leb from (shade_key s)) refl (Memᴰ.cases_cons m)
  where
    both : x ≡ s → remaining from ss ≡ remaining (shade_key x + 1) ss
    both e =
        remaining_all from ss (λ y q. omega (arith, k y q, ap shade_key e))
        ∙ sym (remaining_all (shade_key x + 1) ss (λ y q. omega (arith, k y q, ap shade_key e)))

    go : (In x ss → remaining from ss ≡ x ∷ remaining (shade_key x + 1) ss) → (b : Bool) → leb from (shade_key s) ≡ b → (x ≡ s) ⊎ In x ss →
        cond b (s ∷ remaining from ss) (remaining from ss)
        ≡ x ∷ cond (leb (shade_key x + 1) (shade_key s)) (s ∷ remaining (shade_key x + 1) ss) (remaining (shade_key x + 1) ss)
    go next true e (inl p) =
        rw (lt-leb (shade_key x + 1) (shade_key s) (omega (arith, ap shade_key p)))
        (ap (λ (l : List Shade). s ∷ l) (both p) ∙ ap (λ (y : Shade). y ∷ remaining (shade_key x + 1) ss) (sym p))
    go next true e (inr q) = absurd (omega (arith, k x q, h s (Memᴰ.head refl) (leb-true from (shade_key s) e)))
    go next false e (inl p) = absurd (omega (arith, leb-false from (shade_key s) e, ap shade_key p))
    go next false e (inr q) = rw (lt-leb (shade_key x + 1) (shade_key s) (omega (arith, leb-false from (shade_key s) e))) (next q)

-- ── by the place of the next key ──

module _ (ss : List Shade) (from : ℕ) where
  same_key : (s : Shade) (p : Placed ss s) → get_or (keys_of ss) p.i 0 ≡ shade_key s
  same_key s p = key_at ss p.i ∙ ap shade_key (sym p.at)

  -- no shade remains
  pub left_none : NextIs (keys_of ss) from None → remaining from (in_order ss) ≡ []
  left_none below =
      remaining_none from (in_order ss)
      (λ s m.
      let p = placed ss s (in_order_lem s ss m) in
      omega (arith, same_key s p, below p.i (omega (arith, keys_length ss, p.below))))

  -- the next is the first that remains
  pub left_first : {before i : ℕ} → Rising before ss → IsNext (keys_of ss) from i →
      remaining from (in_order ss) ≡ shade_at ss i ∷ remaining (shade_key (shade_at ss i) + 1) (in_order ss)
  left_first {i = i} r n =
      let k = keys_length ss in
      remaining_least from (shade_at ss i) (in_order ss) (strict_order ss r) (order_in (shade_at ss i) ss (shade_in ss i (omega (arith, k, n.inside))))
      (omega (arith, key_at ss i, n.high))
      (λ s m f.
      let p = placed ss s (in_order_lem s ss m) in
      let e = same_key s p in
      omega (arith, e, key_at ss i, n.least p.i (omega (arith, k, p.below)) (omega (arith, e, f))))
