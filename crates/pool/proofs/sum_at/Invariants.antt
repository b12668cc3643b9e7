-- `pool::sum_at`: the sum so far and that of the spots from the i-th on make the whole.
use Rattle.std.proofs.Common.{◌≡◌, ◌+◌}
use Rattle.pool.specs.Spots.{spots_of, at_row, sum_of}
use Rattle.pool.proofs.Spots.{sum_from}
use Rattle.pool.proofs.sum_at.Given as goal

abbrev pub invariant-loop-i : goal.invariant-loop-i
invariant-loop-i l = l.sum + sum_from l.rows l.row l.count l.spots l.i ≡ sum_of (at_row (spots_of l.rows l.count l.spots) l.row)
