-- As many places are lent as a book has shades, and as a shade has rows.
use Rattle.book.proofs.Rules.{book_contents}
use Rattle.book_search.proofs.nearest_to.Goals as goal

pub count-n-requires : goal.count-n-requires
count-n-requires c = book_contents c.args.lent.rows c.args.book.now c.requires.1
