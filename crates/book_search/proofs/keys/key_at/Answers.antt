-- A book has room for its contents, so the number at the place is read.
use Rattle.std.proofs.Common.{length}
use Rattle.book.proofs.Rules.{book_contents}
use Rattle.book_search.proofs.keys.key_at.Goals as goal

pub number_at-requires : goal.number_at-requires
number_at-requires c = (book_contents (length c.args.places.now) c.args.book.now c.requires.0, c.requires.1)
