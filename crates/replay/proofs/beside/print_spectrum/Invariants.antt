-- Each reading leaves room for those that are left.
use Rattle.std.proofs.Common.{◌+◌, ◌*◌, ◌≤◌}
use Rattle.replay.proofs.beside.print_spectrum.Given as goal

abbrev pub invariant-loop-reading : goal.invariant-loop-reading
invariant-loop-reading g l = l.sheet.end ≤ 19 + 11 * l.reading-index
