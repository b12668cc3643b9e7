-- `listing::list` meets its contract: the lines begin where the header ends, and 16 and 200 lines of 70 are the buffer's length.
use Rattle.std.proofs.Common.{ℕ, sym, ap, ◌∙◌, arith}
use Rattle.cie.specs.Spacing.{unknown_spacing, rows_at, spacing_told}
use Rattle.cie.proofs.TableRows.{told_known}
use Rattle.book.specs.Book.{is_book}
use Rattle.text.proofs.Puts.{then, same}
use Rattle.listing.specs.Listing.{shade_lines}
use Rattle.listing.proofs.Lines.{listing_refused, listing_whole}
use Rattle.listing.proofs.list.Goals as goal

pub returns-then-not-is_book-clause-put : goal.returns-then-not-is_book-clause-put
returns-then-not-is_book-clause-put c =
    let told = c.told_by-spacing.ensures ∙ ap spacing_told c.first_body_length.ensures in
    let rows = c.rows_at.ensures.0 ∙ ap rows_at told in
    listing_refused c.args.book.now rows (sym c.if-not-is_book.ensures) c.put_refusal.ensures.0

pub put_lines-requires : goal.put_lines-requires
put_lines-requires c = (
  ap unknown_spacing c.told_by-spacing.ensures ∙ told_known _,
  ap (λ (n : ℕ). is_book n c.args.book.now) (sym c.rows_at.ensures.0) ∙ sym c.if-not-is_book.ensures,
  omega (arith, c.put-start.ensures.ends, c.put-start.auto.out),
)

pub returns-clause-put : goal.returns-clause-put
returns-clause-put c =
    let b = c.args.book.now in
    let told = c.told_by-spacing.ensures ∙ ap spacing_told c.first_body_length.ensures in
    let rows = c.rows_at.ensures.0 ∙ ap rows_at told in
    listing_whole b rows (sym c.if-not-is_book.ensures)
    (then c.put-start.ensures (same (ap (λ (k : ℕ). shade_lines k b) told) c.put_lines.ensures.0))
