-- One test decides.
use Rattle.std.proofs.Common.{sym, ap, ◌∙◌}
use Rattle.causes.proofs.Checks.{fires, passes, ends}
use Rattle.session.specs.Served.{tolerance_by}
use Rattle.session.proofs.Valid.{meets}
use Rattle.session.proofs.Session.set_tolerance.Goals as goal

pub returns-then-off_scale : goal.returns-then-off_scale
returns-then-off_scale c =
    meets _ _ _ c.requires (c.refused.ensures ∙ sym (fires _ _ _ _ _ (sym c.off_scale.ensures ∙ c.if-off_scale.true)))

pub returns : goal.returns
returns c =
    let on = sym c.off_scale.ensures ∙ c.if-off_scale.false in
    meets _ _ _ c.requires
    (ap (tolerance_by c.args.self) c.tolerance_of.ensures ∙ sym (passes _ _ _ _ _ on ∙ ends _ _))
