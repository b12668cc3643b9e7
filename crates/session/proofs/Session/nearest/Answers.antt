-- The session is as it was, and what a look shows of it is the reply.
use Rattle.std.proofs.Common.{◌∙◌}
use Rattle.looks.specs.Look.{nearest}
use Rattle.session.proofs.Valid.{meets}
use Rattle.session.proofs.Replies.{look_seen}
use Rattle.session.proofs.Session.nearest.Goals as goal

pub returns : goal.returns
returns c =
    let a = c.args in
    meets _ _ _ c.requires (c.seen.ensures ∙ look_seen a.self c.standing.ensures (nearest a.budget a.swatch.now a.book.now) c.nearest.ensures)
