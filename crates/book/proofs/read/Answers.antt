-- `book::read` meets its contract: its tests are the checks, in their order, and then the places hold the shade. Assumes nothing.
use Rattle.std.proofs.Common.{◌∙◌, sym, length}
use Rattle.causes.specs.declared.Cause.TheVariants.{ShortTable, NotABook, NoSuchShade, UnknownSpacing}
use Rattle.book.proofs.Rules.{book_contents}
use Rattle.book.proofs.Outcomes.{no_book, no_shade_lem, has_shade, unknown_spacing_lem, short_places, right_places, read_refused, read_accepted}
use Rattle.book.proofs.read.Goals as goal

pub returns-then-is_unknown : goal.returns-then-is_unknown
returns-then-is_unknown c =
    let a = c.args in
    let unknown = sym c.if-is_unknown.ensures in
    let first = unknown_spacing_lem a.spacing a.book.now a.number (length a.places.now) unknown in
    let p = read_refused a.spacing a.book.now a.number a.places.now UnknownSpacing first in
    record { result_value = p.0; places_after = p.1 }

pub returns-then-places-rows : goal.returns-then-places-rows
returns-then-places-rows c =
    let a = c.args in
    let known = sym c.if-is_unknown.ensures in
    let first = short_places a.spacing a.book.now a.number (length a.places.now) known c.rows_at-rows.ensures.0 c.if-places-rows.true in
    let p = read_refused a.spacing a.book.now a.number a.places.now ShortTable first in
    record { result_value = p.0; places_after = p.1 }

pub returns-then-not-is_book : goal.returns-then-not-is_book
returns-then-not-is_book c =
    let a = c.args in
    let known = sym c.if-is_unknown.ensures in
    let first =
    right_places a.spacing a.book.now a.number (length a.places.now) known c.rows_at-rows.ensures.0 c.if-places-rows.false
    ∙ no_book c.rows_at-rows.result a.book.now a.number (sym c.if-not-is_book.ensures) in
    let p = read_refused a.spacing a.book.now a.number a.places.now NotABook first in
    record { result_value = p.0; places_after = p.1 }

pub find-requires : goal.find-requires
find-requires c = book_contents c.rows_at-rows.result c.args.book.now (sym c.if-not-is_book.ensures)

pub returns-in_default : goal.returns-in_default
returns-in_default c =
    let a = c.args in
    let known = sym c.if-is_unknown.ensures in
    let book = sym c.if-not-is_book.ensures in
    let first =
    right_places a.spacing a.book.now a.number (length a.places.now) known c.rows_at-rows.ensures.0 c.if-places-rows.false
    ∙ no_shade_lem c.rows_at-rows.result a.book.now a.number book c.in_default.ensures in
    let p = read_refused a.spacing a.book.now a.number a.places.now NoSuchShade first in
    record { result_value = p.0; places_after = p.1 }

pub returns : goal.returns
returns c =
    let a = c.args in
    let known = sym c.if-is_unknown.ensures in
    let book = sym c.if-not-is_book.ensures in
    let at = c.rows_at-rows.ensures.0 in
    let clear =
    right_places a.spacing a.book.now a.number (length a.places.now) known at c.if-places-rows.false
    ∙ has_shade c.rows_at-rows.result a.book.now a.number book c.in-Some.ensures in
    let p =
    read_accepted a.spacing a.book.now a.number a.places.now clear (c.if-places-rows.false ∙ at) c.in-Some.ensures.0 c.spectrum_at.ensures in
    record { result_value = p.0; places_after = p.1 }
