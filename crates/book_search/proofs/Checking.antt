-- What a search finds, by what measuring answers and by the two checks behind it. Assumes nothing.
use mathlib.Core.Path.{◌≡◌, refl, sym, ap, ◌∙◌}
use mathlib.Core.Bool.{Bool, true, false, not}
use mathlib.Core.List.{List, [], ◌∷◌, ◌++◌}
use Prim.Native.Nat.{ℕ}
use lib.Dec.{eqb}
use borrow.Author.Tests.{eq-eqb, ne_eqb}
use Rattle.causes.specs.declared.Cause.{Cause}
use Rattle.causes.specs.declared.Cause.TheVariants.{NoConditions, NotABook, EmptyLook}
use Rattle.std.specs.Prelude.{Result, Ok, Err}
use Rattle.causes.specs.Causes.{accepted, refused, refusal, answer_of}
use Rattle.causes.specs.Checks.{Check, check, first_of}
use Rattle.causes.proofs.Checks.{first_fires, first_passes, first_ends, first_because, first_clear, refuses, accepts}
use Rattle.cie.specs.declared.Colour.{Colour}
use Rattle.cie.specs.declared.Sums.{Sums}
use Rattle.cie.specs.Scales.{frame_limit}
use Rattle.cie.specs.Colour.{colour_of}
use Rattle.conditions.specs.declared.Conditions.{Conditions}
use Rattle.conditions.specs.Checks.{spectrum_checks}
use Rattle.conditions.specs.Measure.{measured_by, colour_under}
use Rattle.conditions.proofs.Measuring.{measured_refused, measured_whole}
use Rattle.book.specs.Book.{count_of, is_book}
use Rattle.nearest.specs.Rule.{NearestOutcome, answered, nearest}
use Rattle.book_search.specs.Shades.{book_beside, nearest_by}
use Rattle.book_search.specs.Searching.{empty_look, search_checks, searched_under}

-- whether there is something to look at, by the count that the code reads
module _ (budget : ℕ) (book : List ℕ) {n : ℕ} (p : n ≡ count_of book) where
  pub no_shade_lem : n ≡ 0 → true ≡ empty_look budget book
  no_shade_lem h = rw (eq-eqb (count_of book) 0 (sym p ∙ h))

  pub some_shades : (n ≡ 0 → ⊥) → eqb budget 0 ≡ empty_look budget book
  some_shades h = rw (ne_eqb (count_of book) 0 (λ e. h (p ∙ e)))

module _ (c : Conditions) (budget : ℕ) (swatch book : List ℕ) where
  -- nothing opened
  pub search_unopened : (opened : Bool) → not opened ≡ true → searched_under c opened budget swatch book ≡ refusal NoConditions
  unfolding searched_under
  search_unopened opened h = refuses _ _ _ _ (first_fires _ _ _ h)

  -- opened: the spectrum's checks, then those of the book and of the look
  abbrev behind : List Check
  behind = check (not (is_book c.rows book)) NotABook ∷ check (empty_look budget book) EmptyLook ∷ []

  abbrev measuring : List Check
  measuring = spectrum_checks frame_limit c.rows swatch

  past : first_of (search_checks true c.rows budget swatch book) ≡ first_of (measuring ++ behind)
  past = first_passes _ _ _ refl

  module _ {m : Result Sums Cause} (e : answer_of m ≡ measured_by frame_limit c.rows c.x c.y c.z swatch) where
    pub search_unmeasured : {cause : Cause} → m ≡ Err cause → searched_under c true budget swatch book ≡ refusal cause
    unfolding searched_under
    search_unmeasured told =
        let w = measured_refused frame_limit c.rows _ _ _ _ e told in
        refuses _ _ _ _ (past ∙ first_because measuring behind _ w.1) ∙ ap (λ (n : ℕ). refused n) w.2

    module _ {sums : Sums} (told : m ≡ Ok sums) where
      measured : first_of (search_checks true c.rows budget swatch book) ≡ first_of behind
      measured = past ∙ first_clear measuring behind (measured_whole frame_limit c.rows _ _ _ _ e told).0

      pub search_no_book : is_book c.rows book ≡ false → searched_under c true budget swatch book ≡ refusal NotABook
      unfolding searched_under
      search_no_book h = refuses _ _ _ _ (measured ∙ first_fires _ _ _ (ap not h))

      module _ (b : is_book c.rows book ≡ true) where
        pub search_empty : empty_look budget book ≡ true → searched_under c true budget swatch book ≡ refusal EmptyLook
        unfolding searched_under
        search_empty h = refuses _ _ _ _ (measured ∙ first_passes _ _ _ (ap not b) ∙ first_fires _ _ _ h)

        pub search_found : empty_look budget book ≡ false → {colour : Colour} → colour ≡ colour_of c.white.sums sums → {a : NearestOutcome} →
            a ≡ answered (nearest budget (book_beside (colour_under c) c.rows colour book)) → accepted a ≡ searched_under c true budget swatch book
        unfolding searched_under nearest_by
        search_found h {colour} k {a} q =
            let w = measured_whole frame_limit c.rows _ _ _ _ e told in
            let same : colour ≡ colour_under c swatch = k ∙ ap (colour_of c.white.sums) w.1 in
            ap accepted (q ∙ ap (λ (x : Colour). answered (nearest budget (book_beside (colour_under c) c.rows x book))) same)
            ∙ sym (accepts _ _ _ (measured ∙ first_passes _ _ _ (ap not b) ∙ first_passes _ _ _ h ∙ first_ends))
