-- Laws of checks in an order: callers follow their tests one by one, and never open `first_of` or `unless`. Assumes nothing.
use mathlib.Core.Path.{◌≡◌, refl, ap}
use mathlib.Core.Bool.{Bool, true, false, cond}
use mathlib.Core.List.{List, [], ◌∷◌, ◌++◌}
use Prim.Native.Nat.{ℕ, zero, suc}
use native.Mathlib.Omega.{arith}
use Rattle.causes.specs.declared.Cause.{Cause}
use Rattle.causes.specs.Checks.{Checked}
use Rattle.std.specs.Prelude.{Ok, Err}
use Rattle.causes.specs.Causes.{cause_number, accepted, refused}
use Rattle.causes.specs.Checks.{Check, check, first_of, unless, numbered}

-- a check that holds decides; one that does not leaves it to the rest
pub first_fires : (b : Bool) (c : Cause) (cs : List Check) → b ≡ true → first_of (check b c ∷ cs) ≡ Err c
unfolding first_of
first_fires b c cs e = rw e

pub first_passes : (b : Bool) (c : Cause) (cs : List Check) → b ≡ false → first_of (check b c ∷ cs) ≡ first_of cs
unfolding first_of
first_passes b c cs e = rw e

pub first_ends : first_of [] ≡ Ok tt
unfolding first_of
first_ends = refl

-- the same of the call's answer: a check that holds ends the call with its cause
module _ {A : Type 0} (b : Bool) (c : Cause) (cs : List Check) (f : Cause → A) (a : A) where
  pub fires : b ≡ true → unless (first_of (check b c ∷ cs)) f a ≡ f c
  unfolding unless
  fires e = ap (λ (t : Checked). unless t f a) (first_fires b c cs e)

  pub passes : b ≡ false → unless (first_of (check b c ∷ cs)) f a ≡ unless (first_of cs) f a
  passes e = ap (λ (t : Checked). unless t f a) (first_passes b c cs e)

-- after the last check comes the accepted answer
pub ends : {A : Type 0} (f : Cause → A) (a : A) → unless (first_of []) f a ≡ a
unfolding first_of unless
ends f a = refl

-- checks that some callee has run already, by what they found
pub refuses : {A : Type 0} (t : Checked) (f : Cause → A) (a : A) (c : Cause) → t ≡ Err c → unless t f a ≡ f c
unfolding unless
refuses t f a c e = rw e

pub accepts : {A : Type 0} (t : Checked) (f : Cause → A) (a : A) → t ≡ Ok tt → unless t f a ≡ a
unfolding unless
accepts t f a e = rw e

-- an answer in numbers says what its checks found: a cause of that number, or nothing
pub numbered_refused : {A : Type 0} (found : Checked) (a : A) (n : ℕ) → numbered found a ≡ refused n →
    (c : Cause) × (found ≡ Err c) × (cause_number c ≡ n)
unfolding unless
numbered_refused (Ok tt) a n e = let z : ◌≡◌ {A = ℕ} 0 1 = cc in absurd (omega arith)
numbered_refused (Err c) a n e = (c, refl, cc)

pub numbered_accepted : {A : Type 0} (found : Checked) (a b : A) → numbered found a ≡ accepted b → (found ≡ Ok tt) × (b ≡ a)
unfolding unless
numbered_accepted (Ok tt) a b e = (refl, cc)
numbered_accepted (Err c) a b e = (cc, cc)

-- where the checks find nothing, none of them holds
pub clear_head : (b : Bool) (c : Cause) (cs : List Check) → first_of (check b c ∷ cs) ≡ Ok tt → b ≡ false
unfolding first_of
clear_head true c cs e = cc
clear_head false c cs e = refl

pub clear_tail : (b : Bool) (c : Cause) (cs : List Check) → first_of (check b c ∷ cs) ≡ Ok tt → first_of cs ≡ Ok tt
unfolding first_of
clear_tail true c cs e = cc
clear_tail false c cs e = e

-- the condition of the check at a place, from 0
abbrev pub holds_at : List Check → ℕ → Bool
holds_at [] i = false
holds_at (c ∷ cs) zero = c.holds
holds_at (c ∷ cs) (suc i) = holds_at cs i

pub clear_at : (cs : List Check) → first_of cs ≡ Ok tt → (i : ℕ) → holds_at cs i ≡ false
clear_at [] e i = refl
clear_at (c ∷ cs) e zero = clear_head _ _ _ e
clear_at (c ∷ cs) e (suc i) = clear_at cs (clear_tail _ _ _ e) i

-- what holds of every refusal, and of the answer where the checks find nothing, holds of the outcome
pub either : {A : Type 0} (t : Checked) (Q : A → Type 0) (f : Cause → A) (a : A) →
    ((c : Cause) → Q (f c)) → (t ≡ Ok tt → Q a) → Q (unless t f a)
unfolding unless
either (Ok tt) Q f a h k = k refl
either (Err c) Q f a h k = h c

-- two calls whose lists begin with a check that holds end alike
pub fires_both : {A : Type 0} (c : Cause) (xs ys : List Check) (f : Cause → A) (a a' : A) →
    unless (first_of (check true c ∷ xs)) f a ≡ unless (first_of (check true c ∷ ys)) f a'
unfolding first_of unless
fires_both c xs ys f a a' = refl

-- and two end alike behind a check that both have, if they do where it does not hold
pub behind : {A : Type 0} (b : Bool) (c : Cause) (xs ys : List Check) (f : Cause → A) (a a' : A) →
    (b ≡ false → unless (first_of xs) f a ≡ unless (first_of ys) f a') →
    unless (first_of (check b c ∷ xs)) f a ≡ unless (first_of (check b c ∷ ys)) f a'
unfolding first_of
behind true c xs ys f a a' e = unfold unless in refl
behind false c xs ys f a a' e = e refl

-- the cause of some checks is that of a longer list, and where they find nothing the rest decides
pub first_because : (xs ys : List Check) (c : Cause) → first_of xs ≡ Err c → first_of (xs ++ ys) ≡ Err c
unfolding first_of
first_because [] ys c e = cc
first_because (x ∷ xs) ys c e = go x.holds (first_because xs ys c) e
  where
    go : (b : Bool) → (first_of xs ≡ Err c → first_of (xs ++ ys) ≡ Err c) → cond b (Err x.cause) (first_of xs) ≡ Err c
        → cond b (Err x.cause) (first_of (xs ++ ys)) ≡ Err c
    go true next h = h
    go false next h = next h

pub first_clear : (xs ys : List Check) → first_of xs ≡ Ok tt → first_of (xs ++ ys) ≡ first_of ys
unfolding first_of
first_clear [] ys e = refl
first_clear (x ∷ xs) ys e = go x.holds (first_clear xs ys) e
  where
    go : (b : Bool) → (first_of xs ≡ Ok tt → first_of (xs ++ ys) ≡ first_of ys) → cond b (Err x.cause) (first_of xs) ≡ Ok tt
        → cond b (Err x.cause) (first_of (xs ++ ys)) ≡ first_of ys
    go true next h = cc
    go false next h = next h
