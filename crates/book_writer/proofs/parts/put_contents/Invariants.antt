-- The entries from the i-th on, stored from here, are those of all. Assumes nothing.
use Rattle.std.proofs.Common.{length, drop, ◌+◌, ◌*◌, ◌≡◌}
use Rattle.std.proofs.lemmas.List.Edits.{sets}
use Rattle.book.specs.Book.{head_length, entry_length, bodies_at, contents_of}
use Rattle.book_writer.proofs.parts.put_contents.Given as goal

abbrev pub invariant-loop-i : goal.invariant-loop-i
invariant-loop-i l =
    (length l.buffer ≡ length l.initial.buffer)
    × (sets l.buffer (head_length + entry_length * l.i) (contents_of l.rows (bodies_at (length l.numbers) + l.body * l.i) (drop l.i l.numbers))
    ≡ sets l.initial.buffer head_length (contents_of l.rows (bodies_at (length l.numbers)) l.numbers))
