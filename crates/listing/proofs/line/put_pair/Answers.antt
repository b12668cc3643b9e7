-- `listing::line::put_pair` meets its contract: the second number begins where the first ends.
use Rattle.std.proofs.Common.{arith}
use Rattle.std.proofs.Math.Facts.{to_z-of_z}
use Rattle.text.proofs.Puts.{then}
use Rattle.listing.proofs.line.put_pair.Goals as goal

pub returns : goal.returns
returns c =
    let first = c.put_spaced-next.ensures in
    let second = c.put_spaced.ensures in
    (then (rw (to_z-of_z c.ranges.p) at first.0) (rw (to_z-of_z c.ranges.q) at second.0), omega (arith, first.1, second.1))
