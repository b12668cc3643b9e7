-- The full comparisons of a search in a book: the shade at each place is the book's, so every turn is a turn of the rule. Assumes nothing.
use mathlib.Core.Path.{◌≡◌, sym, ap, subst, ◌∙◌}
use mathlib.Core.Bool.{true}
use mathlib.Core.List.{List}
use Prim.Native.Nat.{ℕ, ◌+◌, ◌≤◌, ◌<◌}
use native.Mathlib.Omega.{arith}
use lib.ListN.{length, get_or}
use Rattle.std.specs.Prelude.{Option, Some, None, is_some}
use Rattle.endian.specs.Bytes.{AllBelow}
use Rattle.cie.specs.declared.Colour.{Colour}
use Rattle.cie.specs.Colour.{lab_difference}
use Rattle.conditions.specs.declared.Conditions.{Conditions}
use Rattle.conditions.specs.Measure.{colour_under}
use Rattle.book.specs.Book.{count_of, numbers_of, readings_of}
use Rattle.book.proofs.Rules.{length-numbers_of}
use Rattle.book.proofs.Rising.{numbers_rise, numbers_small}
use Rattle.shades.specs.Shades.{shade_under}
use Rattle.shades.proofs.Spectra.{shade_sized}
use Rattle.nearest.specs.declared.Search.{Search}
use Rattle.nearest.specs.Rule.{Shade, NearestOutcome, answered, nearest}
use Rattle.nearest.specs.Order.{key_range, shade_key, keys_of, SmallKeys, IsNext, NextIs, begun, turn, compared}
use Rattle.nearest.proofs.Remaining.{no_shade, shade_at, key_at, keys_length, Rising}
use Rattle.nearest.proofs.Turns.{Looking, first_some as is_first, looking_first, next_inside, more_room, looking_on, looking_end}
use Rattle.book_search.specs.Shades.{beside, book_beside}
use Rattle.book_search.specs.Searching.{end_of, Searchable}
use Rattle.book_search.proofs.Beside.{each_length, each_at, beside_rises}
use Rattle.book_search.proofs.Theorems.{some_shade, some_budget}

module _ {budget : ℕ} {swatch : Colour} {book keys : List ℕ} {c : Conditions} (given : Searchable budget swatch book keys c) (bytes : AllBelow 256 book) where
  abbrev pub shades : List Shade
  shades = book_beside (colour_under c) c.rows swatch book

  shades_count : length shades ≡ count_of book
  shades_count = each_length (λ k r. beside swatch k (colour_under c r)) c.rows (numbers_of book) (readings_of c.rows book) ∙ length-numbers_of book

  pub keys_count : length keys ≡ count_of book
  keys_count = ap length given.keyed ∙ keys_length shades ∙ shades_count

  -- the shade at a place is the book's
  shade_here : {i : ℕ} → i < count_of book → shade_at shades i ≡ beside swatch (get_or (numbers_of book) i 0) (shade_under c book i)
  shade_here {i} h =
      each_at (λ k r. beside swatch k (colour_under c r)) c.rows no_shade (numbers_of book) (readings_of c.rows book) i
      (omega (arith, h, length-numbers_of book))

  value_here : {i e : ℕ} → i < count_of book → e ≡ (lab_difference swatch (shade_under c book i)).0 → e ≡ (shade_at shades i).e
  value_here h v = v ∙ sym (ap (λ (s : Shade). s.e) (shade_here h))

  rises : Rising 0 shades
  rises =
      beside_rises (colour_under c) c.rows swatch 0 (numbers_of book) (readings_of c.rows book)
      (numbers_small book bytes) (numbers_rise book c.rows given.is_book_holds)

  -- a key fits 48 bits: a difference of L is at most 1,301,508
  pub small_keys : SmallKeys keys
  small_keys = record { below = below }
    where
      below : (i : ℕ) → i < length keys → get_or keys i 0 < key_range
      below i h =
          let l : i < count_of book = omega (arith, h, keys_count) in
          let e : get_or keys i 0 ≡ shade_key (beside swatch (get_or (numbers_of book) i 0) (shade_under c book i)) =
          ap (λ (ks : List ℕ). get_or ks i 0) given.keyed ∙ key_at shades i ∙ ap shade_key (shade_here l) in
          omega (arith, e, given.sized.l, (shade_sized given.sound book i given.is_book_holds).l, numbers_small book bytes i)

  -- in the code's keys
  in_keys : (from : ℕ) (r : Option ℕ) → NextIs keys from r → NextIs (keys_of shades) from r
  in_keys from r n = subst (λ (ks : List ℕ). NextIs ks from r) given.keyed n

  key_same : (i : ℕ) → get_or keys i 0 ≡ get_or (keys_of shades) i 0
  key_same i = ap (λ (ks : List ℕ). get_or ks i 0) given.keyed

  after_key : (i : ℕ) (next : Option ℕ) → NextIs keys (get_or keys i 0 + 1) next → NextIs (keys_of shades) (get_or (keys_of shades) i 0 + 1) next
  after_key i next m = subst (λ (k : ℕ). NextIs (keys_of shades) (k + 1) next) (key_same i) (in_keys (get_or keys i 0 + 1) next m)

  some : 1 ≤ length shades
  some = omega (arith, some_shade budget book given.some, shades_count)

  -- the first full comparison
  pub first_some : (r : Option ℕ) → NextIs keys 0 r → is_some r ≡ true
  first_some r n = is_first budget shades rises some r (in_keys 0 r n)

  module _ {i : ℕ} {r : Option ℕ} (told : r ≡ Some i) (n : NextIs keys 0 r) where
    first_next : IsNext (keys_of shades) 0 i
    first_next = subst (NextIs (keys_of shades) 0) told (in_keys 0 r n)

    pub first_among : i < count_of book
    first_among = omega (arith, first_next.inside, keys_length shades, shades_count)

    pub search_begun : {e : ℕ} {s : Search} → e ≡ (lab_difference swatch (shade_under c book i)).0 →
        s ≡ begun (get_or keys i 0) e s.next → NextIs keys (get_or keys i 0 + 1) s.next → Looking budget shades s
    search_begun {e} {s} v q m =
        subst (Looking budget shades) (sym (q ∙ ap (λ (k : ℕ). begun k e s.next) (key_same i)))
        (looking_first budget shades rises s.next (some_budget budget book given.some) first_next (value_here first_among v) (after_key i s.next m))

  module _ {s : Search} (l : Looking budget shades s) where
    tested : {t : Option ℕ} → turn s budget keys ≡ t → turn s budget (keys_of shades) ≡ t
    tested e = ap (turn s budget) (sym given.keyed) ∙ e

    -- one full comparison more
    module _ {i : ℕ} (t : turn s budget keys ≡ Some i) where
      pub next_among : i < count_of book
      next_among = omega (arith, next_inside budget shades rises l (tested t), keys_length shades, shades_count)

      pub room_left : s.count + 1 ≤ budget
      room_left = more_room budget shades rises l (tested t)

      pub search_on : {e : ℕ} {r : Search} → e ≡ (lab_difference swatch (shade_under c book i)).0 →
          r ≡ compared s (get_or keys i 0) e r.next → NextIs keys (get_or keys i 0 + 1) r.next → Looking budget shades r
      search_on {e} {r} v q m =
          subst (Looking budget shades) (sym (q ∙ ap (λ (k : ℕ). compared s k e r.next) (key_same i)))
          (looking_on budget shades rises l (tested t) (value_here next_among v) r.next (after_key i r.next m))

    -- the search ends
    pub search_ended : turn s budget keys ≡ None → {a : NearestOutcome} → a ≡ end_of s keys → a ≡ answered (nearest budget shades)
    search_ended t e = e ∙ ap (end_of s) given.keyed ∙ looking_end budget shades rises l (tested t)
