-- What a read answers and leaves, by the tests that led there: the first check that holds decides both. Assumes nothing.
use mathlib.Core.Path.{◌≡◌, sym, ap, ◌∙◌}
use mathlib.Core.Bool.{true, false, not}
use Prim.Native.Nat.{ℕ, ◌<◌}
use native.Mathlib.Omega.{arith}
use mathlib.Core.List.{List}
use lib.ListN.{length}
use borrow.Author.Tests.{eq-eqb, ne_eqb}
use Rattle.causes.specs.declared.Cause.{Cause}
use Rattle.causes.specs.declared.Cause.TheVariants.{ShortTable, NotABook, NoSuchShade, UnknownSpacing}
use Rattle.std.specs.Prelude.{Ok, Err}
use Rattle.causes.specs.Causes.{cause_number, accepted, refused}
use Rattle.causes.specs.Checks.{first_of, unless}
use Rattle.causes.proofs.Checks.{first_fires, first_passes}
use Rattle.cie.specs.Spacing.{unknown_spacing, rows_at}
use Rattle.book.specs.Book.{numbers_of, count_of, readings_of, is_book, index_of, spectrum_of, shade_of}
use Rattle.book.specs.Reading.{shade_checks, read_checks, found, places_after_read}
use Rattle.book.proofs.Tests.{in_list, not_in_list}
use Rattle.book.proofs.Rules.{length-numbers_of}

-- the checks of a shade, in their order
module _ (rows : ℕ) (s : List ℕ) (k : ℕ) where
  pub no_book : is_book rows s ≡ false → first_of (shade_checks rows s k) ≡ Err NotABook
  unfolding first_of shade_checks
  no_book h = rw h

  module _ (book : is_book rows s ≡ true) where
    pub no_shade_lem : index_of k (numbers_of s) ≡ count_of s → first_of (shade_checks rows s k) ≡ Err NoSuchShade
    unfolding first_of shade_checks
    no_shade_lem h = rw (book, not_in_list k (numbers_of s) (omega (arith, length-numbers_of s)))

    pub has_shade : {i : ℕ} → (i ≡ index_of k (numbers_of s)) × (i < count_of s) → first_of (shade_checks rows s k) ≡ Ok tt
    unfolding first_of shade_checks
    has_shade h = rw (book, in_list k (numbers_of s) (omega (arith, h.0, h.1, length-numbers_of s)))

-- the reader's checks, in its order; rows is what the code has of the spacing
module _ (spacing : ℕ) (s : List ℕ) (k places : ℕ) where
  pub unknown_spacing_lem : unknown_spacing spacing ≡ true → first_of (read_checks spacing s k places) ≡ Err UnknownSpacing
  unfolding read_checks
  unknown_spacing_lem h = first_fires _ _ _ h

  module _ (known : unknown_spacing spacing ≡ false) {rows : ℕ} (at : rows ≡ rows_at spacing) where
    pub short_places : (places ≡ rows → ⊥) → first_of (read_checks spacing s k places) ≡ Err ShortTable
    unfolding read_checks
    short_places h = first_passes _ _ _ known ∙ first_fires _ _ _ (ap not (ne_eqb places (rows_at spacing) (λ e. h (e ∙ sym at))))

    -- behind them come those of the shade
    pub right_places : places ≡ rows → first_of (read_checks spacing s k places) ≡ first_of (shade_checks rows s k)
    unfolding read_checks
    right_places room =
        first_passes _ _ _ known ∙ first_passes _ _ _ (ap not (eq-eqb places (rows_at spacing) (room ∙ at)))
        ∙ ap (λ (x : ℕ). first_of (shade_checks x s k)) (sym at)

-- a read that is refused, and one that is accepted
module _ (spacing : ℕ) (s : List ℕ) (k : ℕ) (d : List ℕ) where
  pub read_refused : (c : Cause) → first_of (read_checks spacing s k (length d)) ≡ Err c
      → (refused (cause_number c) ≡ found spacing s k (length d)) × (d ≡ places_after_read spacing s k d)
  unfolding found places_after_read unless
  read_refused c e = (rw e, rw e)

  pub read_accepted : first_of (read_checks spacing s k (length d)) ≡ Ok tt → {rows : ℕ} → rows ≡ rows_at spacing → {i : ℕ} → i ≡ index_of k (numbers_of s)
      → {after : List ℕ} → after ≡ spectrum_of rows (readings_of rows s) i
      → (accepted 0 ≡ found spacing s k (length d)) × (after ≡ places_after_read spacing s k d)
  unfolding found places_after_read unless shade_of
  read_accepted e {rows} at p filled = (rw e, rw (e, ← at) (filled ∙ ap (spectrum_of rows (readings_of rows s)) p))
