-- `wide::ratios::ratio` meets its contract: the quotient of the cut numbers is small, and right where its test says so; else two words are
-- divided.
use Rattle.std.proofs.Common.{◌+◌, ◌*◌, ◌/◌, ◌%◌, ◌^◌, lit≤, rules}
use Rattle.wide.specs.Words.{value}
use Rattle.wide.proofs.Cuts.{Near, near}
use Rattle.wide.proofs.ratios.ratio.Goals as goal

pub returns-then-q-m : goal.returns-then-q-m
returns-then-q-m c =
    let a = c.args in
    let e = c.cut_of-e.result + 1 in
    let m = a.k * (a.n / 2 ^ 27) in
    let known : Near a.k a.n (value a.d) e (m / e) (m % e) = rw c.cut_of-e.ensures.0 (near (2 ^ 27) a.k a.n (value a.d) (lit≤ tt) c.requires.2) in
    (known.right (search rules), known.small)
