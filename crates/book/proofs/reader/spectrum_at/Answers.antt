-- `book::reader::spectrum_at` meets its contract: a book is long enough to have its bodies, and they touch. Assumes nothing.
use Rattle.std.proofs.Common.{◌∙◌, length, arith}
use Rattle.book.specs.Book.{count_of}
use Rattle.book.proofs.Sizes.{body_within}
use Rattle.book.proofs.Rules.{rules, book_contents, spectrum_is}
use Rattle.book.proofs.reader.spectrum_at.Goals as goal

pub count-requires : goal.count-requires
count-requires c = book_contents (length c.args.places.now) c.args.s.now c.requires.0

pub read_words-requires : goal.read_words-requires
read_words-requires c =
    let rows = length c.args.places.now in
    let r = rules rows c.args.s.now c.requires.0 in
    omega (arith, body_within rows c.args.i (count_of c.args.s.now) c.requires.1 c.body_length-body.ensures, r.whole)

pub returns : goal.returns
returns c =
    c.read_words.ensures
    ∙ spectrum_is c.args.s.now c.args.i c.requires.1 (length c.args.places.now) c.count.ensures.0 c.body_length-body.ensures
