-- `strike::strike` meets its contract: its tests are the checks, in their order, and then the shade is taken out. Assumes nothing.
use Rattle.std.proofs.Common.{ℕ, ◌<◌, ◌≡◌, ◌∙◌, length, get_or, sym, ap, arith, rules}
use Rattle.causes.specs.declared.Cause.TheVariants.{NotABook, NoSuchShade, UnknownSpacing}
use Rattle.endian.specs.Bytes.{AllBelow}
use Rattle.book.specs.Book.{body_length, numbers_of}
use Rattle.book.proofs.Tests.{at_place}
use Rattle.book.proofs.Rules.{book_contents, length-numbers_of}
use Rattle.book.proofs.Outcomes.{no_book, no_shade_lem, has_shade}
use Rattle.strike.specs.Striking.{book_without, closed_up}
use Rattle.strike.proofs.StruckOut.{total_left}
use Rattle.strike.proofs.Outcomes.{unknown_spacing_lem, known_spacing, strike_refused, strike_accepted}
use Rattle.strike.proofs.strike.Goals as goal

pub returns-then-is_unknown : goal.returns-then-is_unknown
returns-then-is_unknown c =
    let a = c.args in
    let first = unknown_spacing_lem a.spacing a.number a.buffer.now (sym c.if-is_unknown.ensures) in
    let p = strike_refused a.spacing a.number a.buffer.now UnknownSpacing first in
    record { result_value = p.0; buffer_after = p.1 }

pub returns-then-not-is_book : goal.returns-then-not-is_book
returns-then-not-is_book c =
    let a = c.args in
    let first =
    known_spacing a.spacing a.number a.buffer.now (sym c.if-is_unknown.ensures) c.rows_at-rows.ensures.0
    ∙ no_book c.rows_at-rows.result a.buffer.now a.number (sym c.if-not-is_book.ensures) in
    let p = strike_refused a.spacing a.number a.buffer.now NotABook first in
    record { result_value = p.0; buffer_after = p.1 }

pub find-requires : goal.find-requires
find-requires c = book_contents c.rows_at-rows.result c.args.buffer.now (sym c.if-not-is_book.ensures)

pub count-n-requires : goal.count-n-requires
count-n-requires c = book_contents c.rows_at-rows.result c.args.buffer.now (sym c.if-not-is_book.ensures)

pub returns-in_default : goal.returns-in_default
returns-in_default c =
    let a = c.args in
    let first =
    known_spacing a.spacing a.number a.buffer.now (sym c.if-is_unknown.ensures) c.rows_at-rows.ensures.0
    ∙ no_shade_lem c.rows_at-rows.result a.buffer.now a.number (sym c.if-not-is_book.ensures) c.in_default.ensures in
    let p = strike_refused a.spacing a.number a.buffer.now NoSuchShade first in
    record { result_value = p.0; buffer_after = p.1 }

pub returns : goal.returns
returns c =
    let a = c.args in
    let rows = c.rows_at-rows.result in
    let d = a.buffer.now in
    let i = c.in-Some.i in
    let book = sym c.if-not-is_book.ensures in
    let at = c.rows_at-rows.ensures.0 in
    let n = c.count-n.ensures.0 in
    let bytes : AllBelow 256 d = search rules in
    let fits : body_length rows < 65536 = omega (arith, c.rows_at-rows.ensures.2) in
    let inside : i < length (numbers_of d) = omega (arith, length-numbers_of d, c.in-Some.ensures.1) in
    let number : get_or (numbers_of d) i 0 ≡ a.number =
    ap (λ (k : ℕ). get_or (numbers_of d) k 0) c.in-Some.ensures.0 ∙ at_place a.number (numbers_of d) (omega (arith, c.in-Some.ensures.0)) in
    let length-left : c.total.result ≡ length (book_without rows a.number d) =
    c.total.ensures ∙ total_left rows fits d bytes book c.count-n.result i n (omega (arith, c.in-Some.ensures.1, n))
    ∙ ap (λ (k : ℕ). length (book_without rows k d)) number in
    let clear =
    known_spacing a.spacing a.number d (sym c.if-is_unknown.ensures) at ∙ has_shade rows d a.number book c.in-Some.ensures in
    let p =
    strike_accepted a.spacing a.number d clear at length-left
    (c.take_out.ensures ∙ ap (λ (k : ℕ). closed_up (book_without rows k d) (length d)) number) in
    record { result_value = p.0; buffer_after = p.1 }
