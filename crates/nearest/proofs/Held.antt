-- What a search holds, by the code's tests: each way through the code gives the definition's value. Assumes nothing.
use mathlib.Core.Path.{◌≡◌, ap, ◌∙◌}
use mathlib.Core.Bool.{true, false}
use mathlib.Core.List.{List}
use Prim.Native.Nat.{ℕ, ◌+◌, ◌-◌, ◌≤◌, ◌<◌}
use lib.Dec.{ltb}
use lib.ListN.{length, get_or}
use borrow.Author.Tests.{lt-ltb, le-ltb, eq-eqb, ne_eqb}
use Rattle.std.specs.Prelude.{Option, Some, None}
use Rattle.std.proofs.lemmas.Option.{slice_get-get_or}
use Rattle.nearest.specs.declared.Search.{Search}
use Rattle.nearest.specs.Order.{difference_in, number_in, next_difference, goes_on, is_closer, compared, gap_of}

module _ (s : Search) (keys : List ℕ) where
  pub gap_none : s.next ≡ None → 0 ≡ gap_of s keys
  unfolding gap_of next_difference
  gap_none n = rw n

  pub gap_left : {i : ℕ} → s.next ≡ Some i → i < length keys → {d g : ℕ} → d ≡ difference_in (get_or keys i 0) → g ≡ s.e - d → g ≡ gap_of s keys
  unfolding gap_of next_difference
  gap_left {i} n h e p = rw (n, slice_get-get_or keys i 0 h) (p ∙ ap (λ (x : ℕ). s.e - x) e)

  module _ (budget : ℕ) where
    pub none_remains : s.next ≡ None → false ≡ goes_on s budget keys
    unfolding goes_on next_difference
    none_remains n = rw n

    pub budget_used : {i : ℕ} → s.next ≡ Some i → i < length keys → budget ≤ s.count → false ≡ goes_on s budget keys
    unfolding goes_on next_difference
    budget_used {i} n h k = rw (n, slice_get-get_or keys i 0 h, le-ltb s.count budget k)

    pub by_difference : {i : ℕ} → s.next ≡ Some i → i < length keys → s.count < budget → {d : ℕ} → d ≡ difference_in (get_or keys i 0) →
        ltb d s.e ≡ goes_on s budget keys
    unfolding goes_on next_difference
    by_difference {i} n h k e = rw (n, slice_get-get_or keys i 0 h, lt-ltb s.count budget k, e)

module _ (s : Search) (key e : ℕ) where
  pub closer_new : (next : Option ℕ) → is_closer s key e ≡ true → record { count = s.count + 1; best = key; e = e; next = next } ≡ compared s key e next
  unfolding compared
  closer_new next h = rw h

  pub closer_old : (next : Option ℕ) → is_closer s key e ≡ false → record { count = s.count + 1; best = s.best; e = s.e; next = next } ≡ compared s key e next
  unfolding compared
  closer_old next h = rw h

  pub e_below : e < s.e → true ≡ is_closer s key e
  e_below h = rw (lt-ltb e s.e h)

  module _ (h : s.e ≤ e) where
    pub e_above : (e ≡ s.e → ⊥) → false ≡ is_closer s key e
    e_above k = rw (le-ltb e s.e h, ne_eqb e s.e k)

    pub e_equal : e ≡ s.e → {m n : ℕ} → m ≡ number_in key → n ≡ number_in s.best → ltb m n ≡ is_closer s key e
    e_equal k p q = rw (le-ltb e s.e h, eq-eqb e s.e k, p, q)
