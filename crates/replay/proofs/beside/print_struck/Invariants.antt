-- Each byte leaves room for those that are left.
use Rattle.std.proofs.Common.{◌+◌, ◌*◌, ◌≤◌}
use Rattle.replay.proofs.beside.print_struck.Given as goal

abbrev pub invariant-loop-byte : goal.invariant-loop-byte
invariant-loop-byte g l = l.sheet.end ≤ 18 + 2 * l.byte-index
