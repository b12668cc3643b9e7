-- The measuring answer says what the swatch's checks found; then come the book and the look.
use Rattle.std.proofs.Common.{sym, ◌∙◌, arith}
use Rattle.cie.specs.Scales.{frame_limit}
use Rattle.conditions.specs.Lent.{conditions_lent}
use Rattle.conditions.proofs.Measuring.{measured_ready, measured_sized}
use Rattle.book.proofs.Rules.{book_contents}
use Rattle.book_search.proofs.Checking.{search_unmeasured, search_no_book, search_empty, search_found}
use Rattle.book_search.proofs.searched_by.Goals as goal

pub returns-in_default-clause-result_value : goal.returns-in_default-clause-result_value
returns-in_default-clause-result_value c =
    let a = c.args in
    sym (search_unmeasured (conditions_lent a.lent) a.budget a.swatch.now a.book.now c.measure-measured.ensures c.unwrap_err.ensures)

pub returns-then-not-is_book-clause-result_value : goal.returns-then-not-is_book-clause-result_value
returns-then-not-is_book-clause-result_value c =
    let a = c.args in
    sym
    (search_no_book (conditions_lent a.lent) a.budget a.swatch.now a.book.now c.measure-measured.ensures c.in-Ok.is
    (sym c.is_book.ensures ∙ c.if-not-is_book.true))

pub is_empty_look-requires : goal.is_empty_look-requires
is_empty_look-requires c = book_contents c.args.lent.rows c.args.book.now (sym c.is_book.ensures ∙ c.if-not-is_book.false)

pub returns-then-is_empty_look-clause-result_value : goal.returns-then-is_empty_look-clause-result_value
returns-then-is_empty_look-clause-result_value c =
    let a = c.args in
    sym
    (search_empty (conditions_lent a.lent) a.budget a.swatch.now a.book.now c.measure-measured.ensures c.in-Ok.is
    (sym c.is_book.ensures ∙ c.if-not-is_book.false) (sym c.is_empty_look.ensures ∙ c.if-is_empty_look.true))

pub colour_of-colour-requires : goal.colour_of-colour-requires
colour_of-colour-requires c =
    let a = c.args in
    measured_ready (conditions_lent a.lent) a.lent.sound frame_limit (omega arith) a.swatch.now c.measure-measured.ensures c.in-Ok.is

pub nearest_to-requires : goal.nearest_to-requires
nearest_to-requires c =
    let a = c.args in (
      measured_sized (conditions_lent a.lent) a.lent.sound frame_limit (omega arith) a.swatch.now c.measure-measured.ensures c.in-Ok.is
          c.colour_of-colour.ensures,
      sym c.is_book.ensures ∙ c.if-not-is_book.false,
      sym c.is_empty_look.ensures ∙ c.if-is_empty_look.false,
    )

pub returns-clause-result_value : goal.returns-clause-result_value
returns-clause-result_value c =
    let a = c.args in
    search_found (conditions_lent a.lent) a.budget a.swatch.now a.book.now c.measure-measured.ensures c.in-Ok.is
    (sym c.is_book.ensures ∙ c.if-not-is_book.false) (sym c.is_empty_look.ensures ∙ c.if-is_empty_look.false)
    c.colour_of-colour.ensures c.nearest_to.ensures.result_value
