-- `listing::put_refusal` meets its contract: the word, the cause's number and the line feed are put one after the other.
use Rattle.std.proofs.Common.{arith}
use Rattle.text.proofs.Puts.{then}
use Rattle.listing.proofs.put_refusal.Goals as goal

pub returns : goal.returns
returns c =
    let word = c.put-word.ensures in
    let number = c.put_number-number.ensures in
    let end = c.put.ensures in
    (then (then word (rw c.from.ensures at number.0)) end, omega (arith, word.ends, number.1, end.ends))
