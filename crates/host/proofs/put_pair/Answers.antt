-- The second number is stored where the first ends. Assumes nothing.
use mir.Facts.{to_z-of_z}
use Rattle.host.proofs.Answers.{pair_put}
use Rattle.host.proofs.put_pair.Goals as goal

pub returns : goal.returns
returns c =
    let a = c.args in
    pair_put a.out.now a.at a.p a.q (rw (to_z-of_z c.ranges.p) at c.write_i32.ensures) (rw (to_z-of_z c.ranges.q) at c.write_i32-2.ensures)
