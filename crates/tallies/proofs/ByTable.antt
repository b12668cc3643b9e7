-- Laws of what tables have, whatever that is: a change of what one has, seen at each place. Assumes nothing.
use mathlib.Core.Path.{◌≡◌, refl, sym, ap, ◌∙◌}
use mathlib.Core.Bool.{Bool, true, false, and-eq-true_iff}
use mathlib.Core.List.{List, [], ◌∷◌, map}
use Prim.Native.Nat.{ℕ, zero, suc, ◌+◌, ◌-◌, ◌≤◌, ◌<◌}
use native.Mathlib.Omega.{arith}
use lib.Dec.{leb}
use lib.ListN.{length, get_or, set, drop, replicate, drop_of_length-le, get_or-map, get_or-eq_default}
use lib.Seq.{drop-cons}
use borrow.Author.Tests.{le-leb, leb-true, leb-false}
use Rattle.tallies.specs.ByTable.{table_count, is_table, up_from, table_numbers, at_table, changed_at}

pub table_from : (table : ℕ) → is_table table ≡ true → 1 ≤ table
table_from table e = leb-true 1 table ((and-eq-true_iff (leb 1 table) (leb table table_count)).0 e).0

pub table_to : (table : ℕ) → is_table table ≡ true → table ≤ table_count
table_to table e = leb-true table table_count ((and-eq-true_iff (leb 1 table) (leb table table_count)).0 e).1

pub place_below : (table : ℕ) → is_table table ≡ true → table - 1 < table_count
place_below table e = omega (arith, table_from table e, table_to table e)

past : (place : ℕ) → is_table (suc place) ≡ false → table_count ≤ place
past place e = go (leb (suc place) table_count) refl
  where
    go : (t : Bool) → leb (suc place) table_count ≡ t → table_count ≤ place
    go true h =
        let z : ◌≡◌ {A = Bool} true false = sym ((and-eq-true_iff _ _).1 (le-leb 1 (suc place) (omega arith), h)) ∙ e in
        let o : ◌≡◌ {A = ℕ} 0 1 = cc in absurd (omega arith)
    go false h = omega (arith, leb-false (suc place) table_count h)

module _ {A : Type 0} where
  -- what the program reads and stores at a table's place
  pub at_place : (d : A) (l : List A) (table : ℕ) → 1 ≤ table → get_or l (table - 1) d ≡ at_table d l table
  at_place d l zero h = absurd (omega arith)
  at_place d l (suc place) h = ap (λ (i : ℕ). get_or l i d) (omega arith)

  set_changed : (f : A → A) (d : A) (l : List A) (place : ℕ) → set l place (f (get_or l place d)) ≡ changed_at f l (suc place)
  set_changed f d [] place = refl
  set_changed f d (a ∷ l) zero = refl
  set_changed f d (a ∷ l) (suc place) = ap (λ (r : List A). a ∷ r) (set_changed f d l place)

  pub set_place : (f : A → A) (d : A) (l : List A) (table : ℕ) → 1 ≤ table → set l (table - 1) (f (at_table d l table)) ≡ changed_at f l table
  set_place f d l zero h = absurd (omega arith)
  set_place f d l (suc place) h =
      let e : suc place - 1 ≡ place = omega arith in
      ap (λ (i : ℕ). set l i (f (get_or l place d))) e ∙ set_changed f d l place

  pub length_changed : (f : A → A) (l : List A) (table : ℕ) → length (changed_at f l table) ≡ length l
  length_changed f [] table = refl
  length_changed f (a ∷ l) zero = refl
  length_changed f (a ∷ l) (suc zero) = refl
  length_changed f (a ∷ l) (suc (suc place)) = ap suc (length_changed f l (suc place))

  -- where every table has the same as no table
  same_place : (d : A) (n place : ℕ) → get_or (replicate n d) place d ≡ d
  same_place d zero place = refl
  same_place d (suc n) zero = refl
  same_place d (suc n) (suc place) = same_place d n place

  pub same_at : (d : A) (n table : ℕ) → at_table d (replicate n d) table ≡ d
  same_at d n zero = refl
  same_at d n (suc place) = same_place d n place

  -- a number that is no table's
  pub none_at : (d : A) (l : List A) (table : ℕ) → length l ≡ table_count → is_table table ≡ false → at_table d l table ≡ d
  none_at d l zero h e = refl
  none_at d l (suc place) h e = get_or-eq_default l d (omega (arith, past place e))

  changed_past : (f : A → A) (l : List A) (place : ℕ) → length l ≤ place → changed_at f l (suc place) ≡ l
  changed_past f [] place h = refl
  changed_past f (a ∷ l) zero h = absurd (omega arith)
  changed_past f (a ∷ l) (suc place) h = ap (λ (r : List A). a ∷ r) (changed_past f l place (omega arith))

  pub none_changed : (f : A → A) (l : List A) (table : ℕ) → length l ≡ table_count → is_table table ≡ false → changed_at f l table ≡ l
  none_changed f [] zero h e = refl
  none_changed f (a ∷ l) zero h e = refl
  none_changed f l (suc place) h e = changed_past f l place (omega (arith, past place e))

  -- the table itself, and any other
  pub changed_own : (f : A → A) (d : A) (l : List A) (table : ℕ) → 1 ≤ table → table ≤ length l →
      at_table d (changed_at f l table) table ≡ f (at_table d l table)
  changed_own f d l zero h k = absurd (omega arith)
  changed_own f d [] (suc place) h k = absurd (omega arith)
  changed_own f d (a ∷ l) (suc zero) h k = refl
  changed_own f d (a ∷ l) (suc (suc place)) h k = changed_own f d l (suc place) (omega arith) (omega arith)

  pub changed_other : (f : A → A) (d : A) (l : List A) (table another : ℕ) → (another ≡ table → ⊥) →
      at_table d (changed_at f l table) another ≡ at_table d l another
  changed_other f d l table zero n = refl
  changed_other f d [] table (suc i) n = refl
  changed_other f d (a ∷ l) zero (suc i) n = refl
  changed_other f d (a ∷ l) (suc zero) (suc zero) n = absurd (n refl)
  changed_other f d (a ∷ l) (suc zero) (suc (suc i)) n = refl
  changed_other f d (a ∷ l) (suc (suc place)) (suc zero) n = refl
  changed_other f d (a ∷ l) (suc (suc place)) (suc (suc i)) n = changed_other f d l (suc place) (suc i) (λ e. n (ap suc e))

  -- at each place there is what was, or that changed
  pub changed_either : (f : A → A) (d : A) (P : A → Type 0) (l : List A) (table another : ℕ) → let a = at_table d l another in
      P a → P (f a) → P (at_table d (changed_at f l table) another)
  changed_either f d P l table zero p q = p
  changed_either f d P [] table (suc i) p q = p
  changed_either f d P (a ∷ l) zero (suc i) p q = p
  changed_either f d P (a ∷ l) (suc zero) (suc zero) p q = q
  changed_either f d P (a ∷ l) (suc zero) (suc (suc i)) p q = p
  changed_either f d P (a ∷ l) (suc (suc place)) (suc zero) p q = p
  changed_either f d P (a ∷ l) (suc (suc place)) (suc (suc i)) p q = changed_either f d P l (suc place) (suc i) p q

  -- two changes that come to the same in either order at one table do so at any two
  module _ (f g : A → A) (either : (a : A) → f (g a) ≡ g (f a)) where
    pub changed_order : (l : List A) (t u : ℕ) → changed_at f (changed_at g l t) u ≡ changed_at g (changed_at f l u) t
    changed_order [] t u = refl
    changed_order (a ∷ l) zero zero = refl
    changed_order (a ∷ l) zero (suc zero) = refl
    changed_order (a ∷ l) zero (suc (suc u)) = refl
    changed_order (a ∷ l) (suc zero) zero = refl
    changed_order (a ∷ l) (suc zero) (suc zero) = ap (λ (b : A). b ∷ l) (either a)
    changed_order (a ∷ l) (suc zero) (suc (suc u)) = refl
    changed_order (a ∷ l) (suc (suc t)) zero = refl
    changed_order (a ∷ l) (suc (suc t)) (suc zero) = refl
    changed_order (a ∷ l) (suc (suc t)) (suc (suc u)) = ap (λ (r : List A). a ∷ r) (changed_order l (suc t) (suc u))

  -- a list from what stands at each of its places
  module _ (d : A) (l : List A) where
    from_place : (n k : ℕ) → k + n ≡ length l → map (λ i. get_or l i d) (up_from k n) ≡ drop k l
    from_place zero k h = sym (drop_of_length-le l {i = k} (omega arith))
    from_place (suc n) k h = ap (λ (r : List A). get_or l k d ∷ r) (from_place n (suc k) (omega arith)) ∙ sym (drop-cons l k d (omega arith))

    pub each_place : length l ≡ table_count → map (λ i. get_or l i d) (up_from 0 table_count) ≡ l
    each_place h = from_place table_count 0 (sym h)

-- the same, told in other values
module _ {A B : Type 0} (h : A → B) where
  pub at_map : (d : A) (l : List A) (table : ℕ) → at_table (h d) (map h l) table ≡ h (at_table d l table)
  at_map d l zero = refl
  at_map d l (suc place) = get_or-map h l place d

  pub map_changed : (f : A → A) (g : B → B) → ((a : A) → g (h a) ≡ h (f a)) → (l : List A) (table : ℕ) →
      changed_at g (map h l) table ≡ map h (changed_at f l table)
  map_changed f g e [] table = refl
  map_changed f g e (a ∷ l) zero = refl
  map_changed f g e (a ∷ l) (suc zero) = ap (λ (b : B). b ∷ map h l) (e a)
  map_changed f g e (a ∷ l) (suc (suc place)) = ap (λ (r : List B). h a ∷ r) (map_changed f g e l (suc place))

  pub map_back : (k : B → A) → ((a : A) → k (h a) ≡ a) → (l : List A) → map k (map h l) ≡ l
  map_back k e [] = refl
  map_back k e (a ∷ l) = λ i. e a i ∷ map_back k e l i

-- what is told of each table by its number
module _ {A : Type 0} (f f' : ℕ → A) where
  same_from : (k n : ℕ) → ((t : ℕ) → k ≤ t → f t ≡ f' t) → map f (up_from k n) ≡ map f' (up_from k n)
  same_from k zero e = refl
  same_from k (suc n) e = λ i. e k (omega arith) i ∷ same_from (suc k) n (λ t h. e t (omega arith)) i

  module _ (g : A → A) (table : ℕ) (own : g (f table) ≡ f' table) (others : (t : ℕ) → (t ≡ table → ⊥) → f t ≡ f' t) where
    from : (k n place : ℕ) → table ≡ k + place → changed_at g (map f (up_from k n)) (suc place) ≡ map f' (up_from k n)
    from k zero place e = refl
    from k (suc n) zero e =
        let same : k ≡ table = omega arith in
        λ i. (ap (λ (t : ℕ). g (f t)) same ∙ own ∙ ap f' (sym same)) i ∷ same_from (suc k) n (λ t h. others t (λ o. omega arith)) i
    from k (suc n) (suc place) e = λ i. others k (λ o. omega arith) i ∷ from (suc k) n place (omega arith) i

    numbered : (t : ℕ) → table ≡ t → changed_at g (map f table_numbers) t ≡ map f' table_numbers
    numbered zero e = same_from 1 table_count (λ t h. others t (λ o. omega arith))
    numbered (suc place) e = from 1 table_count place (omega arith)

    pub changed_numbered : changed_at g (map f table_numbers) table ≡ map f' table_numbers
    changed_numbered = numbered table refl
