-- `book::reader::number_at` meets its contract: the contents have room for the entries. Assumes nothing.
use Rattle.std.proofs.Common.{◌∙◌}
use Rattle.book.proofs.Rules.{number_is}
use Rattle.book.proofs.reader.number_at.Goals as goal

pub returns : goal.returns
returns c = c.read16.ensures ∙ number_is c.args.s.now c.args.i c.requires.1
