-- The bodies from the i-th on decide as all do, since none before them is over-bright. Assumes nothing.
use Rattle.std.proofs.Common.{◌+◌, ◌-◌, ◌*◌, ◌≡◌}
use Rattle.cie.specs.Scales.{any_above, reader_limit}
use Rattle.endian.specs.Bytes.{words}
use Rattle.book.specs.Book.{body_length, bodies_at, readings_in}
use Rattle.book.proofs.reader.any_over_bright.Given as goal

abbrev pub invariant-loop-i : goal.invariant-loop-i
invariant-loop-i l =
    any_above reader_limit (words l.s (bodies_at l.n + body_length l.rows * l.i) 2 (l.rows * (l.n - l.i)))
    ≡ any_above reader_limit (readings_in l.rows l.s l.n)
