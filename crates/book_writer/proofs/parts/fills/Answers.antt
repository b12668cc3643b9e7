-- `book_writer::parts::fills` meets its contract: a number is a product where one factor divides it and the quotient is the other. Assumes nothing.
use Rattle.std.proofs.Common.{◌%◌, ◌∙◌, length}
use borrow.Author.Tests.{ne_eqb}
use Rattle.book_writer.proofs.Tests.{not_filled}
use Rattle.book_writer.proofs.parts.fills.Goals as goal

pub returns-else-spectra-rows-eq0 : goal.returns-else-spectra-rows-eq0
returns-else-spectra-rows-eq0 c =
    let k = length c.args.spectra.now in
    ne_eqb (k % c.args.rows) 0 c.if-spectra-rows-eq0.false ∙ not_filled c.args.rows c.args.n k c.if-spectra-rows-eq0.false
