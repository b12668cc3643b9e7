-- The bodies from the i-th on, stored from here, are those of all. Assumes nothing.
use Rattle.std.proofs.Common.{length, drop, ◌+◌, ◌*◌, ◌≡◌}
use Rattle.std.proofs.lemmas.List.Edits.{sets}
use Rattle.endian.specs.Bytes.{bytes_of}
use Rattle.book.specs.Book.{bodies_at}
use Rattle.book_writer.proofs.parts.put_bodies.Given as goal

abbrev pub invariant-loop-i : goal.invariant-loop-i
invariant-loop-i l =
    (length l.buffer ≡ length l.initial.buffer)
    × (sets l.buffer (bodies_at l.n + l.body * l.i) (bytes_of (drop (l.rows * l.i) l.spectra)) ≡ sets l.initial.buffer (bodies_at l.n) (bytes_of l.spectra))
