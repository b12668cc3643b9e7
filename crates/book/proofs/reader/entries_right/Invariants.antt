-- The entries from the i-th on are right, after the number before them, just where all are. Assumes nothing.
use Rattle.std.proofs.Common.{◌+◌, ◌-◌, ◌*◌, ◌≡◌}
use Rattle.book.specs.Book.{head_length, entry_length, body_length, bodies_at, entries_ok}
use Rattle.book.proofs.reader.entries_right.Given as goal

abbrev pub invariant-loop-i : goal.invariant-loop-i
invariant-loop-i l =
    entries_ok l.rows l.s (head_length + entry_length * l.i) l.before (bodies_at l.n + body_length l.rows * l.i) (l.n - l.i)
    ≡ entries_ok l.rows l.s head_length 0 (bodies_at l.n) l.n
