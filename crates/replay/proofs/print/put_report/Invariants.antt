-- The tallies of each table leave room for those that are left.
use Rattle.std.proofs.Common.{◌+◌, ◌*◌, ◌≤◌}
use Rattle.replay.proofs.print.put_report.Given as goal

abbrev pub invariant-loop-t : goal.invariant-loop-t
invariant-loop-t l = l.sheet.end ≤ l.initial.sheet.end + 33 * l.t-index
