-- What a strike answers and leaves, by the tests that led there: the first check that holds decides both. Assumes nothing.
use mathlib.Core.Path.{◌≡◌, sym, ap, ◌∙◌}
use mathlib.Core.Bool.{true, false}
use Prim.Native.Nat.{ℕ}
use mathlib.Core.List.{List}
use lib.ListN.{length}
use Rattle.causes.specs.declared.Cause.{Cause}
use Rattle.causes.specs.declared.Cause.TheVariants.{UnknownSpacing}
use Rattle.std.specs.Prelude.{Ok, Err}
use Rattle.causes.specs.Causes.{accepted, refusal}
use Rattle.causes.specs.Checks.{first_of, unless}
use Rattle.causes.proofs.Checks.{first_fires, first_passes}
use Rattle.cie.specs.Spacing.{unknown_spacing, rows_at}
use Rattle.book.specs.Reading.{shade_checks}
use Rattle.strike.specs.Striking.{strike_checks, book_without, struck, closed_up, buffer_after_strike}

module _ (spacing number : ℕ) (s : List ℕ) where
  -- the checks; rows is what the code has of the spacing
  pub unknown_spacing_lem : unknown_spacing spacing ≡ true → first_of (strike_checks spacing number s) ≡ Err UnknownSpacing
  unfolding strike_checks
  unknown_spacing_lem h = first_fires _ _ _ h

  pub known_spacing : unknown_spacing spacing ≡ false → {rows : ℕ} → rows ≡ rows_at spacing
      → first_of (strike_checks spacing number s) ≡ first_of (shade_checks rows s number)
  unfolding strike_checks
  known_spacing h at = first_passes _ _ _ h ∙ ap (λ (x : ℕ). first_of (shade_checks x s number)) (sym at)

  -- a strike that is refused, and one that is accepted
  pub strike_refused : (c : Cause) → first_of (strike_checks spacing number s) ≡ Err c
      → (refusal c ≡ struck spacing number s) × (s ≡ buffer_after_strike spacing number s)
  unfolding struck buffer_after_strike unless
  strike_refused c e = (rw e, rw e)

  pub strike_accepted : first_of (strike_checks spacing number s) ≡ Ok tt → {rows : ℕ} → rows ≡ rows_at spacing
      → {n : ℕ} → n ≡ length (book_without rows number s) → {after : List ℕ} → after ≡ closed_up (book_without rows number s) (length s)
      → (accepted n ≡ struck spacing number s) × (after ≡ buffer_after_strike spacing number s)
  unfolding struck buffer_after_strike unless
  strike_accepted e at p q = (rw (e, ← at) (ap accepted p), rw (e, ← at) q)
