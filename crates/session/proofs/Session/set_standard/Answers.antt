-- The tests run in the order of the checks, and the measuring answer says what the last two found.
use Rattle.std.proofs.Common.{not, sym, ap, ◌∙◌, arith}
use Rattle.causes.proofs.Checks.{fires}
use Rattle.cie.specs.Scales.{frame_limit}
use Rattle.conditions.proofs.Measuring.{measured_ready}
use Rattle.session.proofs.Valid.{meets}
use Rattle.session.proofs.Replies.{standard_refused, standard_whole}
use Rattle.session.proofs.Session.set_standard.Goals as goal

pub returns-then-not-self : goal.returns-then-not-self
returns-then-not-self c = meets _ _ _ c.requires (c.refused.ensures ∙ sym (fires _ _ _ _ _ (ap not c.if-not-self.true)))

pub returns-in_default : goal.returns-in_default
returns-in_default c =
    meets _ _ _ c.requires
    (c.refused-in_default.ensures
    ∙ sym
    (standard_refused c.args.self c.args.readings.now (ap not c.if-not-self.false) c.lend-lent.ensures _ c.measure-measured.ensures
    c.unwrap_err.ensures))

pub colour_of-colour-requires : goal.colour_of-colour-requires
colour_of-colour-requires c =
    measured_ready _ c.lend-lent.result.sound frame_limit (omega arith) _ c.measure-measured.ensures c.in-Ok.is

pub returns : goal.returns
returns c =
    meets _ _ _ c.requires
    (sym
    (standard_whole c.args.self c.args.readings.now (ap not c.if-not-self.false) c.lend-lent.ensures _ c.measure-measured.ensures c.in-Ok.is
    c.colour_of-colour.ensures))
