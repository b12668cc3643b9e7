-- `strike::parts::put_entries` meets its contract: the entries from the i-th on, stored from here, are those of all. Assumes nothing.
use Rattle.std.proofs.Common.{◌+◌, ◌-◌, ◌*◌, ◌∙◌, sym, arith}
use Rattle.book.specs.Book.{head_length, entry_length, bodies_at}
use Rattle.strike.proofs.Entries.{entries_turn, entries_end}
use Rattle.strike.proofs.parts.put_entries.Goals as goal

pub loop-i-preserved : goal.loop-i-preserved
loop-i-preserved c =
    let l = c.loop-i in
    let n = c.args.n in
    let b = c.body_length-body.result in (
      omega arith,
      entries_turn c.args.rows l.buffer (head_length + entry_length * l.i) (bodies_at n + b * l.i) (n - (l.i + 1)) (omega arith) (omega arith)
          c.read16-number.ensures c.put_entry.ensures (omega arith) (omega (arith, c.body_length-body.ensures)) ∙ l.invariant.1,
    )

pub returns : goal.returns
returns c =
    let l = c.loop-i in
    let n = c.args.n in
    let b = c.body_length-body.result in
    sym (entries_end c.args.rows l.buffer (head_length + entry_length * l.i) (bodies_at n + b * l.i) (n - l.i) (omega arith)) ∙ l.invariant.1
