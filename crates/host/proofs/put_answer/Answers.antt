-- The five numbers are stored one after the other, and L fits a signed number. Assumes nothing.
use Rattle.std.proofs.Common.{rules}
use mir.Facts.{to_z_pos}
use mir.Syntax.{w32}
use Rattle.signed.proofs.Passed.{survives}
use Rattle.host.proofs.Answers.{answer_put}
use Rattle.host.proofs.put_answer.Goals as goal

pub returns : goal.returns
returns c =
    answer_put c.args.out.now c.args.colour (to_z_pos w32 c.requires.0)
    (survives (search rules)) (survives (search rules)) (survives (search rules)) (survives (search rules))
    c.write_i32.ensures c.put_pair.ensures c.put_pair-2.ensures
