-- `listing::line::put_line` meets its contract: its pieces are put one after the other, and the longest are 21, 24, 24 and 1 bytes.
use Rattle.std.proofs.Common.{refl, arith}
use Rattle.signed.proofs.Passed.{survives}
use Rattle.listing.proofs.Lines.{line_put}
use Rattle.listing.proofs.line.put_line.Goals as goal

pub returns : goal.returns
returns c =
    let k = c.args.colour in
    let start = c.put_start-start.ensures in
    let lab = c.put_pair-lab.ensures in
    let luv = c.put_pair-luv.ensures in
    let end = c.put.ensures in (
      line_put c.args.number k refl (survives {z = k.a} (omega arith)) (survives {z = k.b} (omega arith)) (survives {z = k.u} (omega arith))
          (survives {z = k.v} (omega arith)) start.0 lab.0 luv.0 end,
      omega (arith, start.1, lab.1, luv.1, end.ends),
    )
