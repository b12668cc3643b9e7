-- Of the keys scanned, the best is the least from `from` on, if one is so high.
use Rattle.std.proofs.Common.{◌<◌, ℕ, get_or, MatchOption}
use Rattle.nearest.proofs.Scan.{Best}
use Rattle.nearest.proofs.order.next.Given as goal

abbrev pub invariant-loop-i : goal.invariant-loop-i
invariant-loop-i l = MatchOption l.best ((j : ℕ) → j < l.i → get_or l.keys j 0 < l.from) (Best l.keys l.from l.i)
