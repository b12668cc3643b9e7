-- What a write answers and leaves, by the tests that led there: the first check that holds decides both. Assumes nothing.
use mathlib.Core.Path.{◌≡◌, ap, ◌∙◌}
use mathlib.Core.Bool.{true, false}
use Prim.Native.Nat.{ℕ, ◌*◌, ◌≤◌, ◌<◌}
use native.Mathlib.Omega.{arith}
use mathlib.Core.List.{List, ◌++◌}
use lib.ListN.{length, drop}
use lib.Seq.{sets}
use lib.Dec.{eqb}
use borrow.Author.Tests.{lt-ltb, le-ltb}
use Rattle.causes.specs.declared.Cause.{Cause}
use Rattle.causes.specs.declared.Cause.TheVariants.{ShortTable, OverBright, TooManyShades, OutOfOrder, ShortBuffer, UnknownSpacing}
use Rattle.std.specs.Prelude.{Ok, Err}
use Rattle.causes.specs.Causes.{cause_number, accepted, refused}
use Rattle.causes.specs.Checks.{first_of, unless}
use Rattle.cie.specs.Scales.{any_above, frame_limit}
use Rattle.cie.specs.Spacing.{unknown_spacing, rows_at}
use Rattle.stores.proofs.Runs.{sets_front}
use Rattle.book.specs.Book.{most_shades, total, rising, book_of}
use Rattle.book_writer.specs.Writing.{write_checks, written, buffer_after_write}
use Rattle.book_writer.proofs.Stored.{length-book_of}

-- the writer's checks, in its order; rows and t are what the code has of the spacing and of the total
module _ (spacing : ℕ) (ns rs : List ℕ) (room : ℕ) where
  pub unknown_spacing_lem : unknown_spacing spacing ≡ true → first_of (write_checks frame_limit spacing ns rs room) ≡ Err UnknownSpacing
  unfolding first_of write_checks
  unknown_spacing_lem h = rw h

  module _ (known : unknown_spacing spacing ≡ false) {rows : ℕ} (at : rows ≡ rows_at spacing) where
    pub short_table : eqb (length rs) (rows * length ns) ≡ false → first_of (write_checks frame_limit spacing ns rs room) ≡ Err ShortTable
    unfolding first_of write_checks
    short_table h = rw (known, ← at, h)

    module _ (long : eqb (length rs) (rows * length ns) ≡ true) where
      pub too_many : most_shades < length ns → first_of (write_checks frame_limit spacing ns rs room) ≡ Err TooManyShades
      unfolding first_of write_checks
      too_many h = rw (known, ← at, long, lt-ltb most_shades (length ns) h)

      module _ (few : length ns ≤ most_shades) where
        pub out_of_order : rising 0 ns ≡ false → first_of (write_checks frame_limit spacing ns rs room) ≡ Err OutOfOrder
        unfolding first_of write_checks
        out_of_order h = rw (known, ← at, long, le-ltb most_shades (length ns) few, h)

        module _ (rises : rising 0 ns ≡ true) where
          pub over_bright : any_above frame_limit rs ≡ true → first_of (write_checks frame_limit spacing ns rs room) ≡ Err OverBright
          unfolding first_of write_checks
          over_bright h = rw (known, ← at, long, le-ltb most_shades (length ns) few, rises, h)

          module _ (fair : any_above frame_limit rs ≡ false) {t : ℕ} (q : t ≡ total rows (length ns)) where
            pub short_buffer : room < t → first_of (write_checks frame_limit spacing ns rs room) ≡ Err ShortBuffer
            unfolding first_of write_checks
            short_buffer h = rw (known, ← at, long, le-ltb most_shades (length ns) few, rises, fair, ← q, lt-ltb room t h)

            pub writes : t ≤ room → first_of (write_checks frame_limit spacing ns rs room) ≡ Ok tt
            unfolding first_of write_checks
            writes h = rw (known, ← at, long, le-ltb most_shades (length ns) few, rises, fair, ← q, le-ltb room t h)

-- a write that is refused, and one that is accepted
module _ (spacing : ℕ) (ns rs b : List ℕ) where
  pub write_refused : (c : Cause) → first_of (write_checks frame_limit spacing ns rs (length b)) ≡ Err c
      → (refused (cause_number c) ≡ written spacing ns rs (length b)) × (b ≡ buffer_after_write spacing ns rs b)
  unfolding written buffer_after_write unless
  write_refused c e = (rw e, rw e)

  pub write_accepted : first_of (write_checks frame_limit spacing ns rs (length b)) ≡ Ok tt → {rows : ℕ} → rows ≡ rows_at spacing → length rs ≡ rows * length ns
      → {t : ℕ} → t ≡ total rows (length ns) → t ≤ length b → {after : List ℕ} → after ≡ sets b 0 (book_of rows ns rs)
      → (accepted t ≡ written spacing ns rs (length b)) × (after ≡ buffer_after_write spacing ns rs b)
  unfolding written buffer_after_write unless
  write_accepted e {rows} at long {t} q room {after} stored =
      let n : length (book_of rows ns rs) ≡ t = omega (arith, length-book_of rows ns rs, ap (λ (x : ℕ). 2 * x) long) in
      (rw (e, ← at, ← q), rw (e, ← at, ← q) (stored ∙ sets_front b (book_of rows ns rs) (omega arith) ∙ ap (λ (k : ℕ). book_of rows ns rs ++ drop k b) n))
