-- The prepared answer says what the checks found: the session is refused with their cause, or opened with the conditions.
use Rattle.std.proofs.Common.{◌∙◌}
use Rattle.causes.specs.Checks.{first_of}
use Rattle.cie.specs.Sums.{tables_of}
use Rattle.conditions.specs.Checks.{table_checks}
use Rattle.conditions.specs.Conditions.{conditions_of}
use Rattle.session.proofs.Valid.{meets}
use Rattle.session.proofs.Replies.{opening}
use Rattle.session.proofs.Session.open_tables.Goals as goal

pub returns : goal.returns
returns c =
    let a = c.args in
    let t = tables_of a.spacing a.illuminant.now a.x.now a.y.now a.z.now in
    meets _ _ _ c.requires (c.opened.ensures ∙ opening a.self (first_of (table_checks t)) (conditions_of t) c.prepare.ensures.answer)
