-- `wide::roots::square_search` meets its contract: the test holds at 0, and not at 2^32, and the last number that passes it is the root.
use Rattle.std.proofs.Common.{◌*◌, ◌^◌, arith, rules, le-leb}
use borrow.Author.Tests.{lt-leb}
use Rattle.wide.specs.Roots.{square_below}
use Rattle.wide.proofs.Search.{last_told, last_square}
use Rattle.wide.proofs.roots.square_search.Goals as goal

pub returns : goal.returns
returns c =
    let n = c.args.n in
    last_square n c.last.result
    (last_told (square_below n) (λ x b h. search rules) (le-leb 0 n (omega arith)) (lt-leb (2 ^ 32 * 2 ^ 32) n (omega arith)) c.last.ensures)
