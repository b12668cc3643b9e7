-- That conditions are opened is asked first, and they lend their own weights.
use Rattle.std.proofs.Common.{not, sym, ap}
use Rattle.book_search.proofs.Checking.{search_unopened}
use Rattle.book_search.proofs.search.Goals as goal

pub returns-then-not-opened-clause-result_value : goal.returns-then-not-opened-clause-result_value
returns-then-not-opened-clause-result_value c =
    let a = c.args in
    sym (search_unopened a.conditions.now a.budget a.swatch.now a.book.now a.opened (ap not c.if-not-opened.true))
