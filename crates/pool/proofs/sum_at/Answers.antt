-- `pool::sum_at` meets its contract: the sum so far and that of the spots from the i-th on make the whole, which fits.
use Rattle.std.proofs.Common.{arith}
use Rattle.pool.proofs.Spots.{row_sum_lem, sum_all, sum_more, sum_none}
use Rattle.pool.proofs.sum_at.Goals as goal

pub loop-i-init : goal.loop-i-init
loop-i-init c = omega (arith, sum_all c.args.rows c.args.row c.args.count c.args.spots.now c.requires.1)

pub overflow_add-sum : goal.overflow_add-sum
overflow_add-sum c =
    let a = c.args in
    let next = sum_more a.rows a.row a.count a.spots.now c.loop-i.i (omega arith) in
    omega (arith, c.loop-i.invariant, next, c.from-sum.ensures, row_sum_lem c.requires.0 a.row c.requires.1)

pub loop-i-preserved : goal.loop-i-preserved
loop-i-preserved c =
    let a = c.args in
    let next = sum_more a.rows a.row a.count a.spots.now c.loop-i.i (omega arith) in
    omega (arith, c.loop-i.invariant, next, c.from-sum.ensures)

pub returns : goal.returns
returns c =
    let a = c.args in
    omega (arith, c.loop-i.invariant, sum_none a.rows a.row a.count a.spots.now c.loop-i.i (omega arith))
