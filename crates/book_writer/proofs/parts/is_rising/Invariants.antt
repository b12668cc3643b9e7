-- The numbers that are left rise from the last one just where all rise. Assumes nothing.
use Rattle.std.proofs.Common.{drop, ◌≡◌}
use Rattle.book.specs.Book.{rising}
use Rattle.book_writer.proofs.parts.is_rising.Given as goal

abbrev pub invariant-loop-number : goal.invariant-loop-number
invariant-loop-number l = rising l.before (drop l.number-index l.numbers) ≡ rising 0 l.numbers
