-- The turns of a search: what is tried from each on gives the rule's answer. Assumes nothing.
use mathlib.Core.Path.{◌≡◌, refl, sym, ap, subst, ◌∙◌}
use mathlib.Core.Bool.{Bool, true, false, ◌&&◌, ◌||◌, cond, or-true}
use mathlib.Core.List.{List, [], ◌∷◌}
use Prim.Native.Nat.{ℕ, ◌+◌, ◌-◌, ◌≤◌, ◌<◌}
use native.Mathlib.Omega.{arith}
use lib.Dec.{leb, ltb, eqb}
use lib.ListN.{length, get_or}
use Rattle.std.specs.Prelude.{is_some, Option, Some, None}
use Rattle.std.proofs.lemmas.Option.{slice_get-get_or}
use borrow.Author.Tests.{ltb-true, ltb-false, le-leb, lt-leb}
use Rattle.nearest.specs.declared.Search.{Search}
use Rattle.nearest.specs.Rule.{Shade, searched, closer, better, in_order, tries, tries_all, nearest, answered}
use Rattle.nearest.specs.Order.{number_range, difference_in, number_in, shade_key, keys_of, IsNext, NextIs, begun, next_difference, goes_on, turn, is_closer, compared, gap_of}
use Rattle.nearest.proofs.Remaining.{shade_at, key_at, keys_length, Rising, small_number, shade_in, remaining, remaining_all, left_none, left_first}

-- what a key holds
difference_in_lem : (s : Shade) → s.number < number_range → difference_in (shade_key s) ≡ s.difference
difference_in_lem s h = omega arith

number_in_lem : (s : Shade) → s.number < number_range → number_in (shade_key s) ≡ s.number
number_in_lem s h = omega arith

-- one step of the rule
module _ (budget count : ℕ) (best next : Shade) (rest : List Shade) where
  tries_on : count < budget → next.difference < best.e → tries budget count best (next ∷ rest) ≡ tries budget (count + 1) (better best next) rest
  unfolding tries
  tries_on h k = rw (lt-leb budget count h, lt-leb best.e next.difference k)

  tries_used : budget ≤ count → tries budget count best (next ∷ rest) ≡ searched count best (best.e - next.difference)
  unfolding tries
  tries_used h = rw (le-leb budget count h)

  tries_far : best.e ≤ next.difference → tries budget count best (next ∷ rest) ≡ searched count best (best.e - next.difference)
  unfolding tries
  tries_far h = rw (le-leb best.e next.difference h, or-true (leb budget count))

tries_end : (budget count : ℕ) (best : Shade) → tries budget count best [] ≡ searched count best 0
unfolding tries
tries_end budget count best = refl

-- the next shade of a search, and what its turn tells
module _ (s : Search) (keys : List ℕ) where
  difference_next : {i : ℕ} → s.next ≡ Some i → i < length keys → next_difference s keys ≡ Some (difference_in (get_or keys i 0))
  unfolding next_difference
  difference_next {i} is h = rw (is, slice_get-get_or keys i 0 h)

  no_difference : s.next ≡ None → next_difference s keys ≡ None
  unfolding next_difference
  no_difference is = rw is

module _ (s : Search) (budget : ℕ) (keys : List ℕ) where
  turn_taken : {i : ℕ} → turn s budget keys ≡ Some i → (goes_on s budget keys ≡ true) × (s.next ≡ Some i)
  unfolding turn
  turn_taken {i} t = go (goes_on s budget keys) refl t
    where
      go : (b : Bool) → goes_on s budget keys ≡ b → cond b s.next None ≡ Some i → (goes_on s budget keys ≡ true) × (s.next ≡ Some i)
      go true p t = (p, t)
      go false p t = absurd cc

  turn_left : {i : ℕ} → s.next ≡ Some i → turn s budget keys ≡ None → goes_on s budget keys ≡ false
  unfolding turn
  turn_left {i} is t = go (goes_on s budget keys) refl t
    where
      go : (b : Bool) → goes_on s budget keys ≡ b → cond b s.next None ≡ None → goes_on s budget keys ≡ false
      go true p t = absurd cc
      go false p t = p

-- the count of a search after one full comparison more
pub compared_count : (s : Search) (key e : ℕ) (next : Option ℕ) → (compared s key e next).count ≡ s.count + 1
unfolding compared
compared_count s key e next = go (is_closer s key e)
  where
    go : (b : Bool) →
        (cond {A = Search} b
        (record { count = s.count + 1; best = key; e = e; next = next })
        (record { count = s.count + 1; best = s.best; e = s.e; next = next })
        ).count
        ≡ s.count + 1
    go true = refl
    go false = refl

-- a search: its best shade, the key from which on none is tried, and that what is tried from there on gives the rule's answer
pub record Looking (budget : ℕ) (ss : List Shade) (s : Search) : Type 0 where
  pub best : Shade
  pub small : best.number < number_range
  pub key : s.best ≡ shade_key best
  pub value : s.e ≡ best.e
  pub room : s.count ≤ budget
  pub from : ℕ
  pub next : NextIs (keys_of ss) from s.next
  pub whole : tries budget s.count best (remaining from (in_order ss)) ≡ nearest budget ss

module _ (budget : ℕ) (ss : List Shade) (rises : Rising 0 ss) where
  -- where a shade is, its key and its number
  module _ {i : ℕ} (h : i < length ss) where
    small_at : (shade_at ss i).number < number_range
    small_at = small_number ss rises (shade_at ss i) (shade_in ss i h)

  pub first_some : 1 ≤ length ss → (r : Option ℕ) → NextIs (keys_of ss) 0 r → is_some r ≡ true
  first_some l (Some i) n = refl
  first_some l None n = absurd (omega (arith, n 0 (omega (arith, keys_length ss))))

  -- the first full comparison
  pub looking_first : {i e : ℕ} (next : Option ℕ) → 1 ≤ budget → IsNext (keys_of ss) 0 i → e ≡ (shade_at ss i).e →
      NextIs (keys_of ss) (get_or (keys_of ss) i 0 + 1) next → Looking budget ss (begun (get_or (keys_of ss) i 0) e next)
  unfolding nearest tries_all
  looking_first {i} next k n v m =
      let h : i < length ss = omega (arith, keys_length ss, n.inside) in
      let o = in_order ss in
      let x = shade_at ss i in
      record {
        best = x;
        small = small_at h;
        key = key_at ss i;
        value = v;
        room = k;
        from = get_or (keys_of ss) i 0 + 1;
        next = m;
        whole =
            ap (λ (key : ℕ). tries budget 1 x (remaining (key + 1) o)) (key_at ss i)
            ∙ ap (tries_all budget) (sym (left_first ss 0 rises n) ∙ remaining_all 0 o (λ s m. omega arith));
      }

  module _ {s : Search} (l : Looking budget ss s) where
    -- the next shade, at a place
    module _ {i : ℕ} (is : s.next ≡ Some i) where
      next_is : IsNext (keys_of ss) l.from i
      next_is = subst (NextIs (keys_of ss) l.from) is l.next

      inside : i < length ss
      inside = omega (arith, keys_length ss, next_is.inside)

      from_here : tries budget s.count l.best (shade_at ss i ∷ remaining (shade_key (shade_at ss i) + 1) (in_order ss)) ≡ nearest budget ss
      from_here = ap (tries budget s.count l.best) (sym (left_first ss l.from rises next_is)) ∙ l.whole

      difference_here : next_difference s (keys_of ss) ≡ Some (shade_at ss i).difference
      difference_here =
          difference_next s (keys_of ss) is next_is.inside
          ∙ ap (λ (d : ℕ). Some d) (ap difference_in (key_at ss i) ∙ difference_in_lem (shade_at ss i) (small_at inside))

      test_here : goes_on s budget (keys_of ss) ≡ (ltb s.count budget && ltb (shade_at ss i).difference s.e)
      unfolding goes_on
      test_here = rw difference_here

    -- what the tests of a turn show
    record Goes (i : ℕ) : Type 0 where
      is : s.next ≡ Some i
      used : s.count < budget
      near : (shade_at ss i).difference < l.best.e

    goes : {i : ℕ} → turn s budget (keys_of ss) ≡ Some i → Goes i
    goes {i} t =
        let w = turn_taken s budget (keys_of ss) t in
        go w.1 (ltb s.count budget) refl (ltb (shade_at ss i).difference s.e) refl (sym (test_here w.1) ∙ w.0)
      where
        go : s.next ≡ Some i → (b : Bool) → ltb s.count budget ≡ b →
            (c : Bool) → ltb (shade_at ss i).difference s.e ≡ c → (b && c) ≡ true → Goes i
        go is true q true r t =
            record { is = is; used = ltb-true s.count budget q; near = omega (arith, l.value, ltb-true (shade_at ss i).difference s.e r) }
        go is true q false r t = absurd cc
        go is false q c r t = absurd cc

    module _ {i : ℕ} (t : turn s budget (keys_of ss) ≡ Some i) where
      abbrev here : Shade
      here = shade_at ss i

      abbrev key_here : ℕ
      key_here = get_or (keys_of ss) i 0

      pub next_inside : i < length (keys_of ss)
      next_inside = (next_is (goes t).is).inside

      pub more_room : s.count + 1 ≤ budget
      more_room = omega (arith, (goes t).used)

      small_here : here.number < number_range
      small_here = small_at (inside (goes t).is)

      module _ {e : ℕ} (v : e ≡ here.e) where
        closer_same : is_closer s key_here e ≡ closer here l.best
        unfolding closer
        closer_same =
            let p : number_in key_here ≡ here.number = ap number_in (key_at ss i) ∙ number_in_lem here small_here in
            let q : number_in s.best ≡ l.best.number = ap number_in l.key ∙ number_in_lem l.best l.small in
            λ j. ltb (v j) (l.value j) || (eqb (v j) (l.value j) && ltb (p j) (q j))

        on : (best : Shade) → better l.best here ≡ best →
            tries budget (s.count + 1) best (remaining (key_here + 1) (in_order ss)) ≡ nearest budget ss
        on best p =
            ap (λ (x : ℕ). tries budget (s.count + 1) best (remaining (x + 1) (in_order ss))) (key_at ss i)
            ∙ ap (λ (x : Shade). tries budget (s.count + 1) x (remaining (shade_key here + 1) (in_order ss))) (sym p)
            ∙ sym (tries_on budget s.count l.best here (remaining (shade_key here + 1) (in_order ss)) (goes t).used (goes t).near)
            ∙ from_here (goes t).is

        -- one full comparison more
        pub looking_on : (next : Option ℕ) → NextIs (keys_of ss) (key_here + 1) next → Looking budget ss (compared s key_here e next)
        unfolding compared better
        looking_on next m = go (is_closer s key_here e) refl
          where
            go : (b : Bool) → is_closer s key_here e ≡ b → Looking budget ss (compared s key_here e next)
            go true c =
                let d : closer here l.best ≡ true = sym closer_same ∙ c in
                rw c
                (record {
                  best = here;
                  small = small_here;
                  key = key_at ss i;
                  value = v;
                  room = more_room;
                  from = key_here + 1;
                  next = m;
                  whole = on here (rw d);
                })
            go false c =
                let d : closer here l.best ≡ false = sym closer_same ∙ c in
                rw c
                (record {
                  best = l.best;
                  small = l.small;
                  key = l.key;
                  value = l.value;
                  room = more_room;
                  from = key_here + 1;
                  next = m;
                  whole = on l.best (rw d);
                })

    -- the search ends
    pub looking_end : turn s budget (keys_of ss) ≡ None →
        record { count = s.count; shade = number_in s.best; gap = gap_of s (keys_of ss); e = s.e } ≡ answered (nearest budget ss)
    unfolding gap_of
    looking_end t = go s.next refl
      where
        told : {gap : ℕ} → gap_of s (keys_of ss) ≡ gap → searched s.count l.best gap ≡ nearest budget ss →
            record { count = s.count; shade = number_in s.best; gap = gap_of s (keys_of ss); e = s.e } ≡ answered (nearest budget ss)
        told g w =
            let q : number_in s.best ≡ l.best.number = ap number_in l.key ∙ number_in_lem l.best l.small in
            (λ j. record { count = s.count; shade = q j; gap = g j; e = l.value j }) ∙ ap answered w

        ended : {i : ℕ} (is : s.next ≡ Some i) →
            tries budget s.count l.best (shade_at ss i ∷ remaining (shade_key (shade_at ss i) + 1) (in_order ss))
            ≡ searched s.count l.best (l.best.e - (shade_at ss i).difference) →
            record { count = s.count; shade = number_in s.best; gap = gap_of s (keys_of ss); e = s.e } ≡ answered (nearest budget ss)
        ended {i} is w = told (rw (difference_here is) (ap (λ (x : ℕ). x - (shade_at ss i).difference) l.value)) (sym w ∙ from_here is)

        far : {i : ℕ} → s.next ≡ Some i → (b : Bool) → ltb s.count budget ≡ b →
            (c : Bool) → ltb (shade_at ss i).difference s.e ≡ c → (b && c) ≡ false →
            record { count = s.count; shade = number_in s.best; gap = gap_of s (keys_of ss); e = s.e } ≡ answered (nearest budget ss)
        far {i} is false q c r t = ended is (tries_used budget s.count l.best (shade_at ss i) _ (ltb-false s.count budget q))
        far {i} is true q false r t =
            ended is (tries_far budget s.count l.best (shade_at ss i) _ (omega (arith, l.value, ltb-false (shade_at ss i).difference s.e r)))
        far is true q true r t = absurd cc

        go : (next : Option ℕ) → s.next ≡ next →
            record { count = s.count; shade = number_in s.best; gap = gap_of s (keys_of ss); e = s.e } ≡ answered (nearest budget ss)
        go None is =
            told (rw (no_difference s (keys_of ss) is))
            (sym
            (ap (tries budget s.count l.best) (left_none ss l.from (subst (NextIs (keys_of ss) l.from) is l.next))
            ∙ tries_end budget s.count l.best)
            ∙ l.whole)
        go (Some i) is =
            far is (ltb s.count budget) refl (ltb (shade_at ss i).difference s.e) refl (sym (test_here is) ∙ turn_left s budget (keys_of ss) is t)
