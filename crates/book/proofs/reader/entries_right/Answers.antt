-- `book::reader::entries_right` meets its contract: the entries from the i-th on are right just where all are. Assumes nothing.
use Rattle.std.proofs.Common.{◌∙◌, refl, arith}
use Rattle.book.proofs.Tests.{entries_on, entries_off, entries_end}
use Rattle.book.proofs.reader.entries_right.Goals as goal

pub returns-then-not-entry_right : goal.returns-then-not-entry_right
returns-then-not-entry_right c =
    entries_off c.args.rows c.args.s.now c.args.n c.loop-i.i c.loop-i.before (omega arith) c.body_length-body.ensures c.if-not-entry_right.ensures refl
    ∙ c.loop-i.invariant

pub loop-i-preserved : goal.loop-i-preserved
loop-i-preserved c =
    entries_on c.args.rows c.args.s.now c.args.n c.loop-i.i c.loop-i.before (omega arith) c.body_length-body.ensures c.if-not-entry_right.ensures refl
    c.read16-before.ensures ∙ c.loop-i.invariant

pub returns : goal.returns
returns c = entries_end c.args.rows c.args.s.now c.args.n c.loop-i.i c.loop-i.before (omega arith) ∙ c.loop-i.invariant
