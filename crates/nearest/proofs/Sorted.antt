-- The order of tries: the shades of a list are those of the list in order, and there their differences rise. Assumes nothing.
use Prim.Native.Nat.{ℕ, ◌≤◌, ◌<◌}
use mathlib.Core.Path.{◌≡◌, refl}
use mathlib.Core.Bool.{Bool, true, false, ◌&&◌, ◌||◌, cond}
use mathlib.Core.Logic.{⊎_elim}
use mathlib.Core.List.Memᴰ
use mathlib.Core.List.{List, [], ◌∷◌}
use native.Mathlib.Omega.{arith}
use lib.Dec.{ltb, eqb}
use borrow.Author.Tests.{ltb-true, ltb-false, eqb-true, eqb-false}
use Rattle.nearest.specs.Rule.{Shade, sooner, insert, in_order}
use Rattle.nearest.specs.Claims.{In}

-- what is in a list with a shade put in is the shade, or was in the list
pub in_insert : (s x : Shade) (ts : List Shade) → In x (insert s ts) → In x (s ∷ ts)
unfolding insert
in_insert s x [] h = h
in_insert s x (t ∷ ts) h = go (in_insert s x ts) (sooner s t) h
  where
    go : (In x (insert s ts) → In x (s ∷ ts)) → (b : Bool) → In x (cond b (s ∷ (t ∷ ts)) (t ∷ insert s ts)) → In x (s ∷ (t ∷ ts))
    go next true m = m
    go next false m =
        ⊎_elim (λ e. Memᴰ.tail (Memᴰ.head e))
        (λ k. ⊎_elim (λ e. Memᴰ.head e) (λ r. Memᴰ.tail (Memᴰ.tail r)) (Memᴰ.cases_cons (next k)))
        (Memᴰ.cases_cons m)

pub insert_in : (s x : Shade) (ts : List Shade) → In x (s ∷ ts) → In x (insert s ts)
unfolding insert
insert_in s x [] h = h
insert_in s x (t ∷ ts) h = go (insert_in s x ts) (sooner s t) h
  where
    go : (In x (s ∷ ts) → In x (insert s ts)) → (b : Bool) → In x (s ∷ (t ∷ ts)) → In x (cond b (s ∷ (t ∷ ts)) (t ∷ insert s ts))
    go next true m = m
    go next false m =
        ⊎_elim (λ e. Memᴰ.tail (next (Memᴰ.head e)))
        (λ k. ⊎_elim (λ e. Memᴰ.head e) (λ r. Memᴰ.tail (next (Memᴰ.tail r))) (Memᴰ.cases_cons k))
        (Memᴰ.cases_cons m)

pub in_order_lem : (x : Shade) (ss : List Shade) → In x (in_order ss) → In x ss
unfolding in_order
in_order_lem x [] h = h
in_order_lem x (s ∷ ss) h = ⊎_elim (λ e. Memᴰ.head e) (λ m. Memᴰ.tail (in_order_lem x ss m)) (Memᴰ.cases_cons (in_insert s x (in_order ss) h))

pub order_in : (x : Shade) (ss : List Shade) → In x ss → In x (in_order ss)
unfolding in_order
order_in x [] h = h
order_in x (s ∷ ss) h =
    insert_in s x (in_order ss) (⊎_elim (λ e. Memᴰ.head e) (λ m. Memᴰ.tail (order_in x ss m)) (Memᴰ.cases_cons h))

-- what `sooner` shows of two shades
pub record Sooner (s t : Shade) : Type 0 where
  pub rises : s.difference ≤ t.difference
  pub ties : s.difference ≡ t.difference → s.number < t.number

pub record NotSooner (s t : Shade) : Type 0 where
  pub falls : t.difference ≤ s.difference
  pub ties : s.difference ≡ t.difference → t.number ≤ s.number

pub sooner_true : (s t : Shade) → sooner s t ≡ true → Sooner s t
unfolding sooner
sooner_true s t h = go (ltb s.difference t.difference) refl (eqb s.difference t.difference) refl (ltb s.number t.number) refl h
  where
    go : (a : Bool) → ltb s.difference t.difference ≡ a → (b : Bool) → eqb s.difference t.difference ≡ b → (c : Bool) → ltb s.number t.number ≡ c
        → (a || (b && c)) ≡ true → Sooner s t
    go true p b q c r h = record { rises = omega (arith, ltb-true s.difference t.difference p); ties = λ e. omega (arith, ltb-true s.difference t.difference p) }
    go false p true q true r h = record { rises = omega (arith, eqb-true s.difference t.difference q); ties = λ e. omega (arith, ltb-true s.number t.number r) }
    go false p true q false r h = let z : ◌≡◌ {A = ℕ} 0 1 = cc in record { rises = omega arith; ties = λ e. omega arith }
    go false p false q c r h = let z : ◌≡◌ {A = ℕ} 0 1 = cc in record { rises = omega arith; ties = λ e. omega arith }

pub sooner_false : (s t : Shade) → sooner s t ≡ false → NotSooner s t
unfolding sooner
sooner_false s t h = go (ltb s.difference t.difference) refl (eqb s.difference t.difference) refl (ltb s.number t.number) refl h
  where
    go : (a : Bool) → ltb s.difference t.difference ≡ a → (b : Bool) → eqb s.difference t.difference ≡ b → (c : Bool) → ltb s.number t.number ≡ c
        → (a || (b && c)) ≡ false → NotSooner s t
    go true p b q c r h = let z : ◌≡◌ {A = ℕ} 0 1 = cc in record { falls = omega arith; ties = λ e. omega arith }
    go false p true q true r h = let z : ◌≡◌ {A = ℕ} 0 1 = cc in record { falls = omega arith; ties = λ e. omega arith }
    go false p true q false r h = record { falls = omega (arith, eqb-true s.difference t.difference q); ties = λ e. omega (arith, ltb-false s.number t.number r) }
    go false p false q c r h = record { falls = omega (arith, ltb-false s.difference t.difference p); ties = λ e. absurd (eqb-false s.difference t.difference q e) }

-- differences rise
pub data Rises : List Shade → Type 0 where
  none : Rises []
  more : {x : Shade} {xs : List Shade} → ((s : Shade) → In s xs → x.difference ≤ s.difference) → Rises xs → Rises (x ∷ xs)

pub rises_insert : (s : Shade) (ts : List Shade) → Rises ts → Rises (insert s ts)
unfolding insert
rises_insert s [] r = more (λ x m. absurd (Memᴰ.not-nil m)) none
rises_insert s (t ∷ ts) (more h r) = go (rises_insert s ts r) (sooner s t) refl
  where
    go : Rises (insert s ts) → (b : Bool) → sooner s t ≡ b → Rises (cond b (s ∷ (t ∷ ts)) (t ∷ insert s ts))
    go next true e =
        let k = sooner_true s t e in
        more {x = s} {xs = t ∷ ts} (λ x m. ⊎_elim (λ p. rw p k.rises) (λ q. omega (arith, h x q, k.rises)) (Memᴰ.cases_cons m)) (more h r)
    go next false e =
        let k = sooner_false s t e in
        more {x = t} {xs = insert s ts} (λ x m. ⊎_elim (λ p. rw p k.falls) (λ q. h x q) (Memᴰ.cases_cons (in_insert s x ts m))) next

pub rises_order : (ss : List Shade) → Rises (in_order ss)
unfolding in_order
rises_order [] = none
rises_order (s ∷ ss) = rises_insert s (in_order ss) (rises_order ss)
