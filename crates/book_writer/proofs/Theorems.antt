-- The claims of specs/Claims.antt: shades that pass the writer's checks, by a limit that is no wider than the reader's, make a book that keeps every
-- rule. Assumes nothing.
use mathlib.Core.Path.{◌≡◌, refl, sym, ap, ◌∙◌}
use mathlib.Core.Bool.{true, false}
use Prim.Native.Nat.{ℕ, ◌*◌, ◌≤◌, ◌<◌}
use native.Mathlib.Omega.{arith}
use mathlib.Core.List.{List, ◌++◌}
use lib.ListN.{length, get_or, drop}
use lib.Seq.{take_at}
use borrow.Author.Tests.{eqb-true, ltb-false, not-false}
use Rattle.causes.specs.Causes.{accepted}
use Rattle.std.specs.Prelude.{Ok}
use Rattle.causes.specs.Checks.{first_of}
use Rattle.causes.proofs.Checks.{clear_at, accepts, numbered_accepted}
use Rattle.cie.specs.Scales.{reader_limit, frame_limit}
use Rattle.cie.specs.Spacing.{unknown_spacing, rows_at}
use Rattle.cie.proofs.Scales.{above_wider}
use Rattle.cie.proofs.TableRows.{rows_few}
use Rattle.endian.specs.Bytes.{AllBelow}
use Rattle.book.specs.Book.{body_length, total, book_of, readings_of, is_book, spectrum_of}
use Rattle.book.specs.Reading.{found, places_after_read}
use Rattle.book.proofs.Outcomes.{has_shade, right_places, read_accepted}
use Rattle.book_writer.specs.Writing.{write_checks, written, buffer_after_write}
use Rattle.book_writer.specs.Claims.{ReadsBack, WrittenReadsBack, StillReadsBack}
use Rattle.book_writer.proofs.Stored.{length-book_of}
use Rattle.book_writer.proofs.Back.{count_back}
use Rattle.book_writer.proofs.Shades.{Shades, makes_book, numbers_back, readings_back, place_back}

-- what the checks leave
shades : {limit : ℕ} (spacing : ℕ) (ns rs : List ℕ) (room : ℕ) → AllBelow 65536 ns → first_of (write_checks limit spacing ns rs room) ≡ Ok tt
    → limit ≤ reader_limit → (unknown_spacing spacing ≡ false) × Shades (rows_at spacing) ns rs
unfolding write_checks
shades spacing ns rs room small e h = (
  clear_at _ e 0,
  record {
    long = eqb-true _ _ (not-false _ (clear_at _ e 1));
    few = ltb-false _ _ (clear_at _ e 2);
    small = small;
    rises = not-false _ (clear_at _ e 3);
    fair = above_wider _ _ rs h (clear_at _ e 4);
  },
)

-- what a read at the spacing finds in the book of such shades
module _ (spacing : ℕ) (known : unknown_spacing spacing ≡ false) (ns rs : List ℕ) (h : Shades (rows_at spacing) ns rs) where
  fits : body_length (rows_at spacing) < 65536
  fits = omega (arith, rows_few spacing)

  reads_back : ReadsBack spacing ns rs (book_of (rows_at spacing) ns rs)
  reads_back =
      let rows : ℕ = rows_at spacing in
      let s : List ℕ = book_of rows ns rs in
      let is : is_book rows s ≡ true = makes_book rows fits ns rs h in
      let same : readings_of rows s ≡ rs = readings_back rows fits ns rs h in
      let read : (i : ℕ) (places : List ℕ) → i < length ns → length places ≡ rows
      → (accepted 0 ≡ found spacing s (get_or ns i 0) (length places)) × (spectrum_of rows rs i ≡ places_after_read spacing s (get_or ns i 0) places) =
      λ i places k e.
      let number = get_or ns i 0 in
      let at = place_back rows fits ns rs h i k in
      let clear = right_places spacing s number (length places) known {rows = rows} refl e
      ∙ has_shade rows s number is (at, omega (arith, count_back rows ns rs h.few)) in
      read_accepted spacing s number places clear {rows = rows} refl at (ap (λ (l : List ℕ). spectrum_of rows l i) (sym same)) in
      record {
        book = is;
        same_numbers = numbers_back rows fits ns rs h;
        same_readings = same;
        finds = λ i places k e. sym (read i places k e).0;
        own = λ i places k e. sym (read i places k e).1;
      }

pub written_reads_back : (spacing : ℕ) → WrittenReadsBack spacing
unfolding written buffer_after_write
written_reads_back spacing ns rs b n bn e =
    let checks = first_of (write_checks frame_limit spacing ns rs (length b)) in
    let rows : ℕ = rows_at spacing in
    let s : List ℕ = book_of rows ns rs in
    let past : List ℕ = drop (total rows (length ns)) b in
    let a = numbered_accepted checks (total rows (length ns)) n e in
    let h = shades spacing ns rs (length b) bn a.0 (omega arith) in
    let long : length s ≡ n = omega (arith, length-book_of rows ns rs, ap (λ (x : ℕ). 2 * x) h.1.long, a.1) in
    rw (accepts checks (λ _. b) (s ++ past) a.0, take_at s past n long) (reads_back spacing h.0 ns rs h.1)

pub still_reads_back : (spacing : ℕ) → StillReadsBack spacing
still_reads_back spacing ns rs room bn e =
    let h = shades spacing ns rs room bn e (omega arith) in
    reads_back spacing h.0 ns rs h.1
