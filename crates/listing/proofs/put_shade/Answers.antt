-- `listing::put_shade` meets its contract: a book has its contents, whose number and readings are the shade's.
use Rattle.book.proofs.Rules.{book_contents}
use Rattle.listing.proofs.put_shade.Goals as goal

pub number_at-requires : goal.number_at-requires
number_at-requires c = (book_contents c.args.lent.rows c.args.book.now c.requires.0, c.requires.1)
