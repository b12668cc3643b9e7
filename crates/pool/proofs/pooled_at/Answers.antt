-- `pool::pooled_at` meets its contract: the rule's arithmetic on the row's sum, whose quotient obeys the limit and so fits.
use Rattle.std.proofs.Common.{arith}
use Rattle.pool.proofs.Spots.{row_pooled, row_sum_lem, row_fair}
use Rattle.pool.proofs.pooled_at.Goals as goal

pub overflow_add-result : goal.overflow_add-result
overflow_add-result c = omega (arith, c.sum_at-sum.ensures, row_sum_lem c.requires.0 c.args.row c.requires.1, c.requires.0.few)

pub overflow_cast-result : goal.overflow_cast-result
overflow_cast-result c =
    omega (arith, row_pooled c.requires.0 c.args.row c.sum_at-sum.ensures, row_fair c.requires.0 c.args.row c.requires.1)

pub returns : goal.returns
returns c = row_pooled c.requires.0 c.args.row c.sum_at-sum.ensures
