-- `wide::quotient_search` meets its contract: the test holds at 0, and not at 2^26, and the last number that passes it is the quotient.
use Rattle.std.proofs.Common.{◌*◌, ◌^◌, arith, rules, le-leb}
use borrow.Author.Tests.{lt-leb}
use Rattle.wide.specs.Roots.{quotient_below}
use Rattle.wide.specs.Words.{value}
use Rattle.wide.proofs.Search.{last_told, last_quotient}
use Rattle.wide.proofs.quotient_search.Goals as goal

pub returns : goal.returns
returns c =
    let n = value c.args.n in
    let d = value c.args.d in
    let q = c.last.result in (
      last_quotient n d q
          (last_told (quotient_below n d) (λ x b h. search rules) (le-leb (0 * d) n (omega arith)) (lt-leb (2 ^ 26 * d) n c.requires.1) c.last.ensures),
      c.last.ensures.below,
    )
