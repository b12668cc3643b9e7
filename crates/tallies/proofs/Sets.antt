-- Laws of the tallies: a verdict raises one of them by 1, two verdicts come to the same in either order, and a table that is not full stays
-- within its limit. Assumes nothing.
use mathlib.Core.Path.{◌≡◌, refl, sym, ap, subst, ◌∙◌}
use mathlib.Core.Bool.{Bool, true, false}
use mathlib.Core.List.{List}
use Prim.Native.Nat.{ℕ, ◌+◌, ◌≤◌}
use native.Mathlib.Omega.{arith}
use lib.Dec.{eqb}
use borrow.Author.Tests.{eqb-true, eqb-false}
use Rattle.cie.specs.declared.Verdict.{Verdict}
use Rattle.cie.specs.declared.Verdict.TheVariants.{Pass, Fail, OnTheLine}
use Rattle.tallies.specs.declared.Tallies.{Tallies}
use Rattle.tallies.specs.ByTable.{table_count, table_limit, is_table}
use Rattle.tallies.specs.Tallies.{no_tallies, no_sets, tally_sum, tallied_by, set_of, tallied_for, Within}
use Rattle.tallies.proofs.ByTable.{same_at, length_changed, none_at, changed_own, changed_other, changed_either, table_from, table_to}

pub one_more : (verdict : Verdict) (t : Tallies) → tally_sum (tallied_by verdict t) ≡ tally_sum t + 1
one_more Pass t = omega arith
one_more Fail t = omega arith
one_more OnTheLine t = omega arith

pub either_order : (v w : Verdict) (t : Tallies) → tallied_by v (tallied_by w t) ≡ tallied_by w (tallied_by v t)
either_order Pass Pass t = refl
either_order Pass Fail t = refl
either_order Pass OnTheLine t = refl
either_order Fail Pass t = refl
either_order Fail Fail t = refl
either_order Fail OnTheLine t = refl
either_order OnTheLine Pass t = refl
either_order OnTheLine Fail t = refl
either_order OnTheLine OnTheLine t = refl

-- how many trials a table has counted
abbrev pub count_at : List Tallies → ℕ → ℕ
count_at sets table = tally_sum (set_of sets table)

pub within_none : Within no_sets
within_none = record { eight = refl; limit = λ table. omega (arith, ap tally_sum (same_at no_tallies table_count table)) }

module _ (sets : List Tallies) (table : ℕ) (verdict : Verdict) where
  pub counted_grows : (another : ℕ) → count_at sets another ≤ count_at (tallied_for sets table verdict) another
  counted_grows another =
      changed_either (tallied_by verdict) no_tallies (λ (t : Tallies). count_at sets another ≤ tally_sum t) sets table another (omega arith)
      (omega (arith, one_more verdict (set_of sets another)))

  module _ (w : Within sets) where
    -- a full table is a table
    pub full_table : count_at sets table ≡ table_limit → is_table table ≡ true
    full_table full = go (is_table table) refl
      where
        go : (t : Bool) → is_table table ≡ t → is_table table ≡ true
        go true e = e
        go false e = absurd (omega (arith, full, ap tally_sum (none_at no_tallies sets table w.eight e)))

    pub counted_own : is_table table ≡ true → count_at (tallied_for sets table verdict) table ≡ count_at sets table + 1
    counted_own e =
        ap tally_sum (changed_own (tallied_by verdict) no_tallies sets table (table_from table e) (omega (arith, table_to table e, w.eight)))
        ∙ one_more verdict (set_of sets table)

    pub within_counted : (count_at sets table ≡ table_limit → ⊥) → Within (tallied_for sets table verdict)
    within_counted room = record { eight = length_changed (tallied_by verdict) sets table ∙ w.eight; limit = λ another. go another (eqb another table) refl }
      where
        own : count_at (tallied_for sets table verdict) table ≤ table_limit
        own =
            changed_either (tallied_by verdict) no_tallies (λ (t : Tallies). tally_sum t ≤ table_limit) sets table table (w.limit table)
            (omega (arith, one_more verdict (set_of sets table), w.limit table, room))

        go : (another : ℕ) (t : Bool) → eqb another table ≡ t → count_at (tallied_for sets table verdict) another ≤ table_limit
        go another true e = subst (λ (n : ℕ). count_at (tallied_for sets table verdict) n ≤ table_limit) (sym (eqb-true another table e)) own
        go another false e =
            omega (arith, w.limit another, ap tally_sum (changed_other (tallied_by verdict) no_tallies sets table another (eqb-false another table e)))
