-- `book_writer::parts::is_rising` meets its contract: the numbers that are left rise from the last one just where all rise. Assumes nothing.
use Rattle.std.proofs.Common.{◌∙◌, arith}
use Rattle.book_writer.proofs.Tests.{rising_on, rising_off, rising_end}
use Rattle.book_writer.proofs.parts.is_rising.Goals as goal

pub returns-then-number-before : goal.returns-then-number-before
returns-then-number-before c =
    let l = c.loop-number in
    rising_off c.args.numbers.now l.number-index l.before (omega arith) c.if-number-before.true ∙ l.invariant

pub loop-number-preserved : goal.loop-number-preserved
loop-number-preserved c =
    let l = c.loop-number in
    rising_on c.args.numbers.now l.number-index l.before (omega arith) c.if-number-before.false ∙ l.invariant

pub returns : goal.returns
returns c = let l = c.loop-number in rising_end c.args.numbers.now l.number-index l.before (omega arith) ∙ l.invariant
