-- `book_writer::write` meets its contract: its tests are the checks, in their order, and then the book is stored. Assumes nothing.
use Rattle.std.proofs.Common.{◌*◌, length, sym}
use borrow.Author.Tests.{eqb-true}
use Rattle.causes.specs.declared.Cause.TheVariants.{ShortTable, OverBright, TooManyShades, OutOfOrder, ShortBuffer, UnknownSpacing}
use Rattle.book_writer.proofs.Outcomes.{unknown_spacing_lem, short_table, too_many, out_of_order, over_bright, short_buffer, writes}
use Rattle.book_writer.proofs.Outcomes.{write_refused, write_accepted}
use Rattle.book_writer.proofs.write.Goals as goal

pub returns-then-is_unknown : goal.returns-then-is_unknown
returns-then-is_unknown c =
    let a = c.args in
    let first =
    unknown_spacing_lem a.spacing a.numbers.now a.spectra.now (length a.buffer.now) (sym c.if-is_unknown.ensures) in
    let p = write_refused a.spacing a.numbers.now a.spectra.now a.buffer.now UnknownSpacing first in
    record { result_value = p.0; buffer_after = p.1 }

pub returns-then-not-fills : goal.returns-then-not-fills
returns-then-not-fills c =
    let a = c.args in
    let first =
    short_table a.spacing a.numbers.now a.spectra.now (length a.buffer.now) (sym c.if-is_unknown.ensures) c.rows_at-rows.ensures.0
    (sym c.if-not-fills.ensures) in
    let p = write_refused a.spacing a.numbers.now a.spectra.now a.buffer.now ShortTable first in
    record { result_value = p.0; buffer_after = p.1 }

pub returns-then-n-gt-MOST_SHADES : goal.returns-then-n-gt-MOST_SHADES
returns-then-n-gt-MOST_SHADES c =
    let a = c.args in
    let first =
    too_many a.spacing a.numbers.now a.spectra.now (length a.buffer.now) (sym c.if-is_unknown.ensures) c.rows_at-rows.ensures.0
    (sym c.if-not-fills.ensures) c.if-n-gt-MOST_SHADES.true in
    let p = write_refused a.spacing a.numbers.now a.spectra.now a.buffer.now TooManyShades first in
    record { result_value = p.0; buffer_after = p.1 }

pub returns-then-not-is_rising : goal.returns-then-not-is_rising
returns-then-not-is_rising c =
    let a = c.args in
    let first =
    out_of_order a.spacing a.numbers.now a.spectra.now (length a.buffer.now) (sym c.if-is_unknown.ensures) c.rows_at-rows.ensures.0
    (sym c.if-not-fills.ensures) c.if-n-gt-MOST_SHADES.false (sym c.if-not-is_rising.ensures) in
    let p = write_refused a.spacing a.numbers.now a.spectra.now a.buffer.now OutOfOrder first in
    record { result_value = p.0; buffer_after = p.1 }

pub returns-then-over_bright : goal.returns-then-over_bright
returns-then-over_bright c =
    let a = c.args in
    let first =
    over_bright a.spacing a.numbers.now a.spectra.now (length a.buffer.now) (sym c.if-is_unknown.ensures) c.rows_at-rows.ensures.0
    (sym c.if-not-fills.ensures) c.if-n-gt-MOST_SHADES.false (sym c.if-not-is_rising.ensures) (sym c.if-over_bright.ensures) in
    let p = write_refused a.spacing a.numbers.now a.spectra.now a.buffer.now OverBright first in
    record { result_value = p.0; buffer_after = p.1 }

pub returns-then-buffer-total : goal.returns-then-buffer-total
returns-then-buffer-total c =
    let a = c.args in
    let first =
    short_buffer a.spacing a.numbers.now a.spectra.now (length a.buffer.now) (sym c.if-is_unknown.ensures) c.rows_at-rows.ensures.0
    (sym c.if-not-fills.ensures) c.if-n-gt-MOST_SHADES.false (sym c.if-not-is_rising.ensures) (sym c.if-over_bright.ensures)
    c.total-total.ensures c.if-buffer-total.true in
    let p = write_refused a.spacing a.numbers.now a.spectra.now a.buffer.now ShortBuffer first in
    record { result_value = p.0; buffer_after = p.1 }

pub returns : goal.returns
returns c =
    let a = c.args in
    let filled = eqb-true (length a.spectra.now) (c.rows_at-rows.result * length a.numbers.now) (sym c.if-not-fills.ensures) in
    let clear =
    writes a.spacing a.numbers.now a.spectra.now (length a.buffer.now) (sym c.if-is_unknown.ensures) c.rows_at-rows.ensures.0
    (sym c.if-not-fills.ensures) c.if-n-gt-MOST_SHADES.false (sym c.if-not-is_rising.ensures) (sym c.if-over_bright.ensures)
    c.total-total.ensures c.if-buffer-total.false in
    let p =
    write_accepted a.spacing a.numbers.now a.spectra.now a.buffer.now clear c.rows_at-rows.ensures.0 filled c.total-total.ensures
    c.if-buffer-total.false c.put_book.ensures in
    record { result_value = p.0; buffer_after = p.1 }
