-- Each field leaves room for those that are left.
use Rattle.std.proofs.Common.{◌+◌, ◌*◌, ◌≤◌}
use Rattle.replay.proofs.sheet.Sheet.put_fields.Given as goal

abbrev pub invariant-loop-n : goal.invariant-loop-n
invariant-loop-n g l = l.self.end ≤ l.initial.self.end + 11 * l.n-index
