-- The claim of specs/Claims.antt: at every stage of the search, what is tried from there on keeps the promise over the best so far and the rest.
-- Assumes nothing.
use Prim.Native.Nat.{ℕ, zero, suc, ◌+◌, ◌-◌, ◌≤◌, ◌<◌}
use mathlib.Core.Path.{◌≡◌, refl, sym, ap, subst, ◌∙◌}
use mathlib.Core.Bool.{Bool, true, false, ◌&&◌, ◌||◌, cond}
use mathlib.Core.Logic.{◌⊎◌, inl, inr, ⊎_elim}
use mathlib.Core.List.Memᴰ
use mathlib.Core.List.{List, [], ◌∷◌}
use native.Mathlib.Omega.{arith}
use lib.ListN.{length, take}
use lib.Dec.{leb, ltb, eqb}
use borrow.Author.Tests.{ltb-true, ltb-false, eqb-true, eqb-false, leb-false}
use Rattle.nearest.specs.Rule.{Shade, Searched, searched, closer, better, in_order, tries, tries_all, nearest}
use Rattle.nearest.specs.Claims.{In, AtLeastAsGood, Promised, NearestPromised}
use Rattle.nearest.proofs.Sorted.{in_order_lem, order_in, Rises, none, more, rises_order}

as_good : (s t u : Shade) → AtLeastAsGood s t → AtLeastAsGood t u → AtLeastAsGood s u
as_good s t u p q =
    let a = p.close in
    let b = q.close in
    record {
      close = omega arith;
      low = λ e. let x = p.low (omega arith) in let y = q.low (omega arith) in omega arith;
    }

itself : (s : Shade) → AtLeastAsGood s s
itself s = record { close = omega arith; low = λ e. omega arith }

-- the better of two is at least as good as both, and one of them
record Better (best next b : Shade) : Type 0 where
  old : AtLeastAsGood b best
  new : AtLeastAsGood b next
  one : (b ≡ best) ⊎ (b ≡ next)

better_is : (best next : Shade) → Better best next (better best next)
unfolding better closer
better_is b n = go (ltb n.e b.e) refl (eqb n.e b.e) refl (ltb n.number b.number) refl
  where
    go : (x : Bool) → ltb n.e b.e ≡ x → (y : Bool) → eqb n.e b.e ≡ y → (z : Bool) → ltb n.number b.number ≡ z
        → Better b n (cond (x || (y && z)) n b)
    go true p y q z r = let k = ltb-true n.e b.e p in record { old = record { close = omega arith; low = λ e. omega arith }; new = itself n; one = inr refl }
    go false p true q true r =
        let k = eqb-true n.e b.e q in
        let l = ltb-true n.number b.number r in
        record { old = record { close = omega arith; low = λ e. omega arith }; new = itself n; one = inr refl }
    go false p true q false r =
        let k = eqb-true n.e b.e q in
        let l = ltb-false n.number b.number r in
        record { old = itself b; new = record { close = omega arith; low = λ e. omega arith }; one = inl refl }
    go false p false q z r =
        let k = ltb-false n.e b.e p in
        record { old = itself b; new = record { close = k; low = λ e. absurd (eqb-false n.e b.e q (sym e)) }; one = inl refl }

-- the promise from a stage on
record Stage (budget count : ℕ) (best : Shade) (rest : List Shade) (a : Searched) : Type 0 where
  on : count ≤ a.count
  within : a.count ≤ budget
  near : (s : Shade) → In s (best ∷ rest) → a.best.e ≤ s.e + a.gap
  own : In a.best (best ∷ take (a.count - count) rest)
  lowest : (s : Shade) → In s (best ∷ take (a.count - count) rest) → AtLeastAsGood a.best s

take_none : (n : ℕ) (ss : List Shade) → take (n - n) ss ≡ []
take_none n ss = let e : n - n ≡ 0 = omega arith in rw e

in_take : (x : Shade) (n : ℕ) (ss : List Shade) → In x (take n ss) → In x ss
in_take x zero ss m = absurd (Memᴰ.not-nil m)
in_take x (suc n) [] m = m
in_take x (suc n) (s ∷ ss) m = ⊎_elim (λ e. Memᴰ.head e) (λ k. Memᴰ.tail (in_take x n ss k)) (Memᴰ.cases_cons m)

-- the search ends here
stops : (budget count : ℕ) (best : Shade) (rest : List Shade) (gap : ℕ) → count ≤ budget
    → ((s : Shade) → In s rest → best.e ≤ s.e + gap) → Stage budget count best rest (searched count best gap)
stops budget count best rest gap k h =
    record {
      on = omega arith;
      within = k;
      near = λ s m. ⊎_elim (λ p. rw p (omega arith)) (λ q. h s q) (Memᴰ.cases_cons m);
      own = Memᴰ.head refl;
      lowest = λ s m. rw (Memᴰ.eq_of_singleton (rw take_none at m)) (itself best);
    }

-- what holds of two shades and of those behind them holds of all
of_all : (Q : Shade → Type 0) (x y : Shade) (xs : List Shade) → Q x → Q y → ((s : Shade) → In s xs → Q s) → (s : Shade) → In s (x ∷ (y ∷ xs)) → Q s
of_all Q x y xs p q r s m =
    ⊎_elim (λ e. subst Q (sym e) p) (λ n. ⊎_elim (λ e. subst Q (sym e) q) (r s) (Memᴰ.cases_cons n)) (Memᴰ.cases_cons m)

-- one more is tried
goes : (budget count : ℕ) (best next : Shade) (rest : List Shade) (a : Searched) → count < budget
    → Stage budget (count + 1) (better best next) rest a → Stage budget count best (next ∷ rest) a
goes budget count best next rest a k h =
    let b = better_is best next in
    let l : AtLeastAsGood a.best (better best next) = h.lowest (better best next) (Memᴰ.head refl) in
    let old : AtLeastAsGood a.best best = as_good a.best (better best next) best l b.old in
    let new : AtLeastAsGood a.best next = as_good a.best (better best next) next l b.new in
    let on₀ = h.on in
    let more-tried : a.count - count ≡ suc (a.count - (count + 1)) = omega arith in
    let left : List Shade = take (a.count - (count + 1)) rest in
    let own : In a.best (best ∷ (next ∷ left)) =
    ⊎_elim
    (λ p. ⊎_elim (λ x. Memᴰ.head (p ∙ x)) (λ x. Memᴰ.tail (Memᴰ.head (p ∙ x))) b.one)
    (λ q. Memᴰ.tail (Memᴰ.tail q))
    (Memᴰ.cases_cons h.own) in
    record {
      on = omega arith;
      within = h.within;
      near =
          of_all (λ (s : Shade). a.best.e ≤ s.e + a.gap) best next rest (omega (arith, old.close)) (omega (arith, new.close))
          (λ s r. h.near s (Memᴰ.tail r));
      own = rw more-tried own;
      lowest = rw more-tried (of_all (AtLeastAsGood a.best) best next left old new (λ s r. h.lowest s (Memᴰ.tail r)));
    }

stage : (budget count : ℕ) (best : Shade) (rest : List Shade) → count ≤ budget → Rises rest → ((s : Shade) → In s rest → s.difference ≤ s.e)
    → Stage budget count best rest (tries budget count best rest)
unfolding tries
stage budget count best [] k none h = stops budget count best [] 0 k (λ s m. absurd (Memᴰ.not-nil m))
stage budget count best (next ∷ rest) k (more r rs) h =
    go (λ l. stage budget (count + 1) (better best next) rest l rs (λ s m. h s (Memᴰ.tail m))) (leb budget count) refl (leb best.e next.difference) refl
  where
    here : Stage budget count best (next ∷ rest) (searched count best (best.e - next.difference))
    here =
        stops budget count best (next ∷ rest) (best.e - next.difference) k
        (λ s m. ⊎_elim (λ p. rw p (omega (arith, h next (Memᴰ.head refl)))) (λ q. omega (arith, h s m, r s q)) (Memᴰ.cases_cons m))

    go : (count + 1 ≤ budget → Stage budget (count + 1) (better best next) rest (tries budget (count + 1) (better best next) rest))
        → (x : Bool) → leb budget count ≡ x → (y : Bool) → leb best.e next.difference ≡ y
        → Stage budget count best (next ∷ rest) (cond (x || y) (searched count best (best.e - next.difference)) (tries budget (count + 1) (better best next) rest))
    go on true p y q = here
    go on false p true q = here
    go on false p false q = goes budget count best next rest _ (leb-false budget count p) (on (omega (arith, leb-false budget count p)))

-- from the list in order
whole : (budget : ℕ) (ss os : List Shade) → 1 ≤ budget → in_order ss ≡ os → 1 ≤ length ss → Rises os → ((s : Shade) → In s ss → s.difference ≤ s.e)
    → Promised budget ss (tries_all budget os)
unfolding tries_all in_order
whole budget [] os k e l r h = absurd (omega arith)
whole budget (s₀ ∷ ss) [] k e l r h = absurd (Memᴰ.not-nil (rw e at (order_in s₀ (s₀ ∷ ss) (Memᴰ.head refl))))
whole budget (s₀ ∷ ss) (first ∷ rest) k e l (more r rs) h =
    let back : (s : Shade) → In s (first ∷ rest) → In s (s₀ ∷ ss) = λ s m. in_order_lem s (s₀ ∷ ss) (rw e m) in
    let there : (s : Shade) → In s (s₀ ∷ ss) → In s (first ∷ rest) = λ s m. rw e at (order_in s (s₀ ∷ ss) m) in
    let a : Searched = tries budget 1 first rest in
    let st : Stage budget 1 first rest a = stage budget 1 first rest k rs (λ s m. h s (back s (Memᴰ.tail m))) in
    let one = st.on in
    let n : a.count ≡ suc (a.count - 1) = omega arith in
    let tried-is : take a.count (in_order (s₀ ∷ ss)) ≡ first ∷ take (a.count - 1) rest =
    ap (λ (l : List Shade). take a.count l) e ∙ ap (λ (j : ℕ). take j (first ∷ rest)) n in
    record {
      near = λ s m. st.near s (there s m);
      nearest_of_all = λ g s m. omega (arith, st.near s (there s m));
      within = st.within;
      some = one;
      among = rw tried-is st.own;
      lowest = λ s m. st.lowest s (rw tried-is at m);
      own =
          back a.best
          (⊎_elim (λ p. Memᴰ.head p) (λ q. Memᴰ.tail (in_take a.best (a.count - 1) rest q)) (Memᴰ.cases_cons st.own));
    }

pub nearest_promised : NearestPromised
unfolding nearest
nearest_promised budget ss k l h = whole budget ss (in_order ss) k refl l (rises_order ss) h
