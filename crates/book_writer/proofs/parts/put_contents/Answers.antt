-- `book_writer::parts::put_contents` meets its contract: the entries from the i-th on, stored from here, are those of all. Assumes nothing.
use Rattle.std.proofs.Common.{◌+◌, ◌*◌, ◌∙◌, length, sym, arith}
use Rattle.book.specs.Book.{head_length, entry_length, bodies_at}
use Rattle.book_writer.proofs.Stored.{contents_store, contents_stored}
use Rattle.book_writer.proofs.parts.put_contents.Goals as goal

pub loop-i-preserved : goal.loop-i-preserved
loop-i-preserved c =
    let l = c.loop-i in
    let ns = c.args.numbers.now in
    let offset = bodies_at (length ns) + c.body_length-body.result * l.i in (
      omega arith,
      contents_store c.args.rows l.buffer (head_length + entry_length * l.i) l.i offset ns (omega arith) c.put_entry.ensures
          (omega arith) (omega (arith, c.body_length-body.ensures)) ∙ l.invariant.1,
    )

pub returns : goal.returns
returns c =
    let l = c.loop-i in
    let ns = c.args.numbers.now in
    let offset = bodies_at (length ns) + c.body_length-body.result * l.i in
    sym (contents_stored c.args.rows l.buffer (head_length + entry_length * l.i) l.i offset ns (omega arith)) ∙ l.invariant.1
