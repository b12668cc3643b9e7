-- Each field leaves room for those that are left.
use Rattle.std.proofs.Common.{◌+◌, ◌*◌, ◌≤◌}
use Rattle.replay.proofs.print.put_colour.Given as goal

abbrev pub invariant-loop-x : goal.invariant-loop-x
invariant-loop-x l = l.sheet.end ≤ l.initial.sheet.end + 12 * l.x-index
