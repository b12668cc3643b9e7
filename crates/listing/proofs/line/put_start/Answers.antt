-- `listing::line::put_start` meets its contract: the three texts are put one after the other.
use Rattle.std.proofs.Common.{arith}
use Rattle.text.proofs.Puts.{then}
use Rattle.listing.proofs.line.put_start.Goals as goal

pub returns : goal.returns
returns c =
    let number = c.put_number-end.ensures in
    let space = c.put-next.ensures in
    let l = c.put_number.ensures in
    (then number.0 (then space l.0), omega (arith, number.1, space.ends, l.1))
