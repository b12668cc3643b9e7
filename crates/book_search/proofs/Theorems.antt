-- What a search in a book tells: the rule's promise over the book's shades, each found by its number, since E is never below the difference of L.
-- Assumes nothing.
use mathlib.Core.Path.{◌≡◌, refl, sym, ap, subst, ◌∙◌}
use mathlib.Core.Bool.{true, false}
use mathlib.Core.List.{List}
use Prim.Native.Nat.{ℕ, zero, suc, ◌≤◌, ◌<◌}
use native.Mathlib.Omega.{arith}
use lib.Dec.{eqb}
use lib.ListN.{length, get_or}
use borrow.Author.Tests.{eqb-false}
use Rattle.cie.specs.declared.Colour.{Colour}
use Rattle.cie.proofs.Scales.{or_left, or_right}
use Rattle.cie.proofs.Differences.{lab_above_l}
use Rattle.book.specs.Book.{count_of, numbers_of, readings_of, is_book, is_in, index_of, spectrum_of, shade_of}
use Rattle.book.proofs.Rules.{length-numbers_of}
use Rattle.book.proofs.Tests.{in_list, in_place, at_place}
use Rattle.book.proofs.Rising.{numbers_rise, own_place}
use Rattle.nearest.specs.Rule.{Shade, nearest}
use Rattle.nearest.specs.Claims.{In, Promised}
use Rattle.nearest.proofs.Remaining.{no_shade, shade_at, Placed, placed, shade_in}
use Rattle.nearest.proofs.Theorems.{nearest_promised}
use Rattle.book_search.specs.Shades.{beside, book_beside, nearest_by}
use Rattle.book_search.specs.Searching.{empty_look}
use Rattle.book_search.specs.Claims.{e_of, NearestInBook}
use Rattle.book_search.proofs.Beside.{each_length, each_at}

-- where there is something to look at
positive : (n : ℕ) → (n ≡ 0 → ⊥) → 1 ≤ n
positive zero h = absurd (h refl)
positive (suc n) h = omega arith

module _ (budget : ℕ) (book : List ℕ) (e : empty_look budget book ≡ false) where
  pub some_shade : 1 ≤ count_of book
  some_shade = positive (count_of book) (eqb-false (count_of book) 0 (or_left (eqb (count_of book) 0) (eqb budget 0) e))

  pub some_budget : 1 ≤ budget
  some_budget = positive budget (eqb-false budget 0 (or_right (eqb (count_of book) 0) (eqb budget 0) e))

module _ (colour : List ℕ → Colour) (rows budget : ℕ) (swatch book : List ℕ) where
  abbrev shades : List Shade
  shades = book_beside colour rows (colour swatch) book

  abbrev numbers : List ℕ
  numbers = numbers_of book

  -- the shade at a place
  abbrev beside_at : ℕ → Shade
  beside_at i = beside (colour swatch) (get_or numbers i 0) (colour (spectrum_of rows (readings_of rows book) i))

  shades_length : length shades ≡ length numbers
  shades_length = each_length (λ k r. beside (colour swatch) k (colour r)) rows numbers (readings_of rows book)

  at_place_is : (i : ℕ) → i < length numbers → shade_at shades i ≡ beside_at i
  at_place_is i h = each_at (λ k r. beside (colour swatch) k (colour r)) rows no_shade numbers (readings_of rows book) i h

  placed_beside : {s : Shade} (p : Placed shades s) → s ≡ beside_at p.i
  placed_beside p = p.at ∙ at_place_is p.i (omega (arith, p.below, shades_length))

  e_above : (s : Shade) → In s shades → s.difference ≤ s.e
  e_above s m = subst (λ (x : Shade). x.difference ≤ x.e) (sym (placed_beside (placed shades s m))) (lab_above_l (colour swatch) _)

  -- the shade of a number is among them
  shade_of_lem : (k : ℕ) → is_in k numbers ≡ true → In (beside (colour swatch) k (colour (shade_of rows book k))) shades
  unfolding shade_of
  shade_of_lem k h =
      let i = index_of k numbers in
      let l : i < length numbers = in_place k numbers h in
      let e : shade_at shades i ≡ beside (colour swatch) k (colour (spectrum_of rows (readings_of rows book) i)) =
      at_place_is i l
      ∙ ap (λ (n : ℕ). beside (colour swatch) n (colour (spectrum_of rows (readings_of rows book) i))) (at_place k numbers l) in
      subst (λ (s : Shade). In s shades) e (shade_in shades i (omega (arith, l, shades_length)))

  module _ (b : is_book rows book ≡ true) (e : empty_look budget book ≡ false) where
    promised : Promised budget shades (nearest budget shades)
    promised =
        nearest_promised budget shades (some_budget budget book e) (omega (arith, some_shade budget book e, shades_length, length-numbers_of book)) e_above

    best_placed : Placed shades (nearest budget shades).best
    best_placed = placed shades (nearest budget shades).best promised.own

    best_inside : best_placed.i < length numbers
    best_inside = omega (arith, best_placed.below, shades_length)

    best_index : index_of (nearest budget shades).best.number numbers ≡ best_placed.i
    best_index =
        ap (λ (k : ℕ). index_of k numbers) (ap (λ (s : Shade). s.number) (placed_beside best_placed))
        ∙ own_place 0 numbers best_placed.i (numbers_rise book rows b) best_inside

    best_in : is_in (nearest budget shades).best.number numbers ≡ true
    best_in = in_list (nearest budget shades).best.number numbers (omega (arith, best_index, best_inside))

    best_own : (nearest budget shades).best.e ≡ e_of colour rows swatch book (nearest budget shades).best.number
    unfolding shade_of
    best_own = ap (λ (s : Shade). s.e) (placed_beside best_placed) ∙ ap (λ (j : ℕ). (beside_at j).e) (sym best_index)

pub nearest_in_book : NearestInBook
unfolding nearest_by
nearest_in_book =
    record {
      told = λ colour rows budget swatch book b e.
          let p = promised colour rows budget swatch book b e in
          record {
            in_book = best_in colour rows budget swatch book b e;
            own = best_own colour rows budget swatch book b e;
            near = λ k h. p.near _ (shade_of_lem colour rows budget swatch book k h);
            nearest_of_all = λ g k h. p.nearest_of_all g _ (shade_of_lem colour rows budget swatch book k h);
            within = p.within;
          };
    }
