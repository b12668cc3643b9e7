-- `book::reader::first_body_length` meets its contract: the test decides as the definition does. Assumes nothing.
use Rattle.std.proofs.Common.{length}
use borrow.Author.Tests.{le-leb, lt-leb}
use Rattle.book.specs.Book.{bodies_at, first_body_length}
use Rattle.book.proofs.reader.first_body_length.Goals as goal

pub returns-then-s : goal.returns-then-s
unfolding first_body_length
returns-then-s c = rw (lt-leb (bodies_at 1) (length c.args.s.now) c.if-s.true)

pub returns : goal.returns
unfolding first_body_length
returns c = rw (le-leb (bodies_at 1) (length c.args.s.now) c.if-s.false) c.read16.ensures
