-- The entries from the i-th on, stored from here, are those of all. Assumes nothing.
use Rattle.std.proofs.Common.{length, ◌+◌, ◌-◌, ◌*◌, ◌≡◌}
use Rattle.std.proofs.lemmas.List.Edits.{sets}
use Rattle.endian.specs.Bytes.{words}
use Rattle.book.specs.Book.{head_length, entry_length, bodies_at, contents_of}
use Rattle.strike.proofs.parts.put_entries.Given as goal

abbrev pub invariant-loop-i : goal.invariant-loop-i
invariant-loop-i l =
    let at = head_length + entry_length * l.i in
    (length l.buffer ≡ length l.initial.buffer)
    × (sets l.buffer at (contents_of l.rows (bodies_at l.n + l.body * l.i) (words l.buffer at entry_length (l.n - l.i)))
    ≡ sets l.initial.buffer head_length (contents_of l.rows (bodies_at l.n) (words l.initial.buffer head_length entry_length l.n)))
