-- `pool::pool_rows`: each place that is passed holds its row's pooled reading.
use Rattle.std.proofs.Common.{◌≡◌, ℕ, ◌<◌, get_or}
use Rattle.pool.specs.Spots.{spots_of, at_row, pooled_reading}
use Rattle.pool.proofs.pool_rows.Given as goal

abbrev pub invariant-loop-row : goal.invariant-loop-row
invariant-loop-row l = (k : ℕ) → k < l.row → get_or l.places k 0 ≡ pooled_reading (at_row (spots_of l.rows l.count l.spots) k)
