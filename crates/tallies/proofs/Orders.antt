-- Trials in any order. What a trial comes to by itself, a verdict or none, is counted for its table unless that is full. Where no verdict is
-- lost to a full table, every order of the trials ends in the same tallies. Assumes nothing.
use mathlib.Core.Path.{◌≡◌, refl, sym, ap, subst, ◌∙◌}
use mathlib.Core.Bool.{Bool, true, false, cond}
use mathlib.Core.List.{List, [], ◌∷◌, Permᴰ}
use mathlib.Core.Option.{Option, none, some}
use Prim.Native.Nat.{ℕ, ◌≤◌, ◌<◌}
use native.Mathlib.Nat.{le_trans}
use native.Mathlib.Omega.{arith}
use borrow.Author.Tests.{eqb-true, eqb-false}
use Rattle.cie.specs.declared.Verdict.{Verdict}
use Rattle.tallies.specs.declared.Tallies.{Tallies}
use Rattle.tallies.specs.ByTable.{table_limit, is_full}
use Rattle.tallies.specs.Tallies.{tallied_by, tallied_for, Within}
use Rattle.tallies.proofs.ByTable.{changed_order}
use Rattle.tallies.proofs.Sets.{either_order, count_at, counted_grows, full_table, counted_own, within_counted}

-- what a trial comes to by itself, counted
abbrev pub counted_as : List Tallies → ℕ → Option Verdict → List Tallies
counted_as sets table none = sets
counted_as sets table (some verdict) = tallied_for sets table verdict

-- unless the table is full
abbrev pub counted_unless : Bool → List Tallies → ℕ → Option Verdict → List Tallies
counted_unless full sets table own = cond full sets (counted_as sets table own)

abbrev pub is_full_at : List Tallies → ℕ → Bool
is_full_at sets table = is_full (count_at sets table)

as_order : (sets : List Tallies) (t u : ℕ) (a b : Option Verdict) → counted_as (counted_as sets t a) u b ≡ counted_as (counted_as sets u b) t a
as_order sets t u none b = refl
as_order sets t u (some v) none = refl
as_order sets t u (some v) (some w) = changed_order (tallied_by w) (tallied_by v) (either_order w v) sets t u

as_grows : (sets : List Tallies) (table : ℕ) (own : Option Verdict) (n : ℕ) → count_at sets n ≤ count_at (counted_as sets table own) n
as_grows sets table none n = omega arith
as_grows sets table (some verdict) n = counted_grows sets table verdict n

unless_grows : (full : Bool) (sets : List Tallies) (table : ℕ) (own : Option Verdict) (n : ℕ) → count_at sets n ≤ count_at (counted_unless full sets table own) n
unless_grows true sets table own n = omega arith
unless_grows false sets table own n = as_grows sets table own n

unless_within : (full : Bool) (sets : List Tallies) (table : ℕ) (own : Option Verdict) → is_full_at sets table ≡ full → Within sets →
    Within (counted_unless full sets table own)
unless_within true sets table own e w = w
unless_within false sets table none e w = w
unless_within false sets table (some verdict) e w = within_counted sets table verdict w (eqb-false _ _ e)

-- a trial whose own verdict is not lost comes to what it would without the limit
abbrev pub KeptWhen : Bool → Option Verdict → Type 0
KeptWhen full own = full ≡ true → (verdict : Verdict) → own ≡ some verdict → ⊥

unless_kept : (full : Bool) (sets : List Tallies) (table : ℕ) (own : Option Verdict) → KeptWhen full own →
    counted_unless full sets table own ≡ counted_as sets table own
unless_kept false sets table own k = refl
unless_kept true sets table none k = refl
unless_kept true sets table (some verdict) k = absurd (k refl verdict refl)

module _ {T : Type 0} (table : T → ℕ) (own : T → Option Verdict) where
  abbrev pub tried_in : List Tallies → T → List Tallies
  tried_in sets t = counted_unless (is_full_at sets (table t)) sets (table t) (own t)

  abbrev pub after_all : List Tallies → List T → List Tallies
  after_all sets [] = sets
  after_all sets (t ∷ ts) = after_all (tried_in sets t) ts

  -- no verdict is lost to a full table
  abbrev pub NoneLost : List Tallies → List T → Type 0
  NoneLost sets [] = Unit
  NoneLost sets (t ∷ ts) = KeptWhen (is_full_at sets (table t)) (own t) × NoneLost (tried_in sets t) ts

  -- as if there were no limit
  abbrev applied_in : List Tallies → T → List Tallies
  applied_in sets t = counted_as sets (table t) (own t)

  abbrev applied_all : List Tallies → List T → List Tallies
  applied_all sets [] = sets
  applied_all sets (t ∷ ts) = applied_all (applied_in sets t) ts

  within_tried : (sets : List Tallies) (t : T) → Within sets → Within (tried_in sets t)
  within_tried sets t = unless_within (is_full_at sets (table t)) sets (table t) (own t) refl

  within_after : (sets : List Tallies) (ts : List T) → Within sets → Within (after_all sets ts)
  within_after sets [] w = w
  within_after sets (t ∷ ts) w = within_after (tried_in sets t) ts (within_tried sets t w)

  applied_order : {ts us : List T} (sets : List Tallies) → Permᴰ ts us → applied_all sets ts ≡ applied_all sets us
  applied_order sets Permᴰ.nil = refl
  applied_order sets (Permᴰ.cons {a} {l₂ = us} e d) = applied_order (applied_in sets a) d ∙ ap (λ (t : T). applied_all (applied_in sets t) us) e
  applied_order sets (Permᴰ.swap {a} {b} {l = ts} e f) =
      ap (λ (q : List Tallies). applied_all q ts) (as_order sets (table a) (table b) (own a) (own b))
      ∙ (λ i. applied_all (applied_in (applied_in sets (f i)) (e i)) ts)
  applied_order sets (Permᴰ.trans p q) = applied_order sets p ∙ applied_order sets q

  applied_grows : (sets : List Tallies) (ts : List T) (n : ℕ) → count_at sets n ≤ count_at (applied_all sets ts) n
  applied_grows sets [] n = omega arith
  applied_grows sets (t ∷ ts) n = le_trans (as_grows sets (table t) (own t) n) (applied_grows (applied_in sets t) ts n)

  after_grows : (sets : List Tallies) (ts : List T) (n : ℕ) → count_at sets n ≤ count_at (after_all sets ts) n
  after_grows sets [] n = omega arith
  after_grows sets (t ∷ ts) n =
      le_trans (unless_grows (is_full_at sets (table t)) sets (table t) (own t) n) (after_grows (tried_in sets t) ts n)

  tried_applied : (sets : List Tallies) (t : T) → KeptWhen (is_full_at sets (table t)) (own t) → tried_in sets t ≡ applied_in sets t
  tried_applied sets t k = unless_kept (is_full_at sets (table t)) sets (table t) (own t) k

  -- where no verdict is lost, the limit might as well not be there
  lost_applied : (sets : List Tallies) (ts : List T) → NoneLost sets ts → after_all sets ts ≡ applied_all sets ts
  lost_applied sets [] k = refl
  lost_applied sets (t ∷ ts) k = lost_applied (tried_in sets t) ts k.1 ∙ ap (λ (q : List Tallies). applied_all q ts) (tried_applied sets t k.0)

  -- where the tallies without the limit are within it, no verdict is lost
  kept_first : (sets : List Tallies) (t : T) (ts : List T) → Within sets → count_at (applied_all sets (t ∷ ts)) (table t) ≤ table_limit →
      KeptWhen (is_full_at sets (table t)) (own t)
  kept_first sets t ts w within full verdict e =
      let f = eqb-true (count_at sets (table t)) table_limit full in
      let raised = ap (λ (o : Option Verdict). count_at (counted_as sets (table t) o) (table t)) e
      ∙ counted_own sets (table t) verdict w (full_table sets (table t) verdict w f) in
      omega (arith, f, raised, applied_grows (applied_in sets t) ts (table t), within)

  applied_lost : (sets : List Tallies) (ts : List T) → Within sets → ((n : ℕ) → count_at (applied_all sets ts) n ≤ table_limit) → NoneLost sets ts
  applied_lost sets [] w within = tt
  applied_lost sets (t ∷ ts) w within =
      let k = kept_first sets t ts w (within (table t)) in (
        k,
        applied_lost (tried_in sets t) ts (within_tried sets t w)
            (subst (λ (q : List Tallies). (n : ℕ) → count_at (applied_all q ts) n ≤ table_limit) (sym (tried_applied sets t k)) within),
      )

  -- where no table has reached its limit at the end, none is lost
  pub below_lost : (sets : List Tallies) (ts : List T) → ((n : ℕ) → count_at (after_all sets ts) n < table_limit) → NoneLost sets ts
  below_lost sets [] below = tt
  below_lost sets (t ∷ ts) below = (
    (λ full verdict e.
        omega (arith, eqb-true (count_at sets (table t)) table_limit full, after_grows sets (t ∷ ts) (table t), below (table t))),
    below_lost (tried_in sets t) ts below,
  )

  module _ (sets : List Tallies) {ts us : List T} (w : Within sets) (r : Permᴰ ts us) where
    order_lost : NoneLost sets ts → NoneLost sets us
    order_lost k =
        applied_lost sets us w
        (subst (λ (q : List Tallies). (n : ℕ) → count_at q n ≤ table_limit) (lost_applied sets ts k ∙ applied_order sets r) (within_after sets ts w).limit)

    pub order_same : NoneLost sets ts → after_all sets ts ≡ after_all sets us
    order_same k = lost_applied sets ts k ∙ applied_order sets r ∙ sym (lost_applied sets us (order_lost k))
