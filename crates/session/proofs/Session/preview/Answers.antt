-- The session is as it was, and what a look shows of it is the reply.
use Rattle.std.proofs.Common.{◌∙◌}
use Rattle.looks.specs.Look.{preview}
use Rattle.session.proofs.Valid.{meets}
use Rattle.session.proofs.Replies.{look_seen}
use Rattle.session.proofs.Session.preview.Goals as goal

pub returns : goal.returns
returns c =
    let a = c.args in
    meets _ _ _ c.requires (c.seen.ensures ∙ look_seen a.self c.standing.ensures (preview a.table a.readings.now) c.preview.ensures)
