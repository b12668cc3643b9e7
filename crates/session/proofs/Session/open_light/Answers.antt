-- The prepared answer says what the light's check found: the session is refused with its cause, or opened with the light's conditions.
use Rattle.std.proofs.Common.{◌∙◌}
use Rattle.session.proofs.Valid.{meets}
use Rattle.session.proofs.Replies.{opening}
use Rattle.session.proofs.Session.open_light.Goals as goal

pub returns : goal.returns
returns c = meets _ _ _ c.requires (c.opened.ensures ∙ opening c.args.self _ _ c.prepare_light.ensures.answer)
