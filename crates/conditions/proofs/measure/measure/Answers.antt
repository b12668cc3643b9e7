-- The checks in their order, then the sums. Assumes nothing.
use Rattle.std.proofs.Common.{sym, ap, ◌∙◌, not, arith, eq-eqb, ne_eqb}
use Rattle.causes.specs.Causes.{accepted}
use Rattle.causes.proofs.Checks.{fires, passes, ends}
use Rattle.cie.specs.Scales.{reader_limit}
use Rattle.cie.proofs.Scales.{above_wider}
use Rattle.conditions.specs.Measure.{measured_by}
use Rattle.conditions.proofs.measure.measure.Goals as goal

pub returns-then-readings-rows : goal.returns-then-readings-rows
unfolding measured_by
returns-then-readings-rows c = sym (fires _ _ _ _ _ (ap not (ne_eqb _ _ c.if-readings-rows.true)))

pub returns-then-over_bright : goal.returns-then-over_bright
unfolding measured_by
returns-then-over_bright c =
    sym
    (passes _ _ _ _ _ (ap not (eq-eqb _ _ c.if-readings-rows.false))
    ∙ fires _ _ _ _ _ (sym c.over_bright.ensures ∙ c.if-over_bright.true))

pub sums_of-requires : goal.sums_of-requires
sums_of-requires c =
    let fair = sym c.over_bright.ensures ∙ c.if-over_bright.false in
    record {
      few = omega (arith, c.requires.1);
      scale = above_wider c.args.limit reader_limit c.args.readings.now c.requires.0 fair;
    }

pub returns : goal.returns
unfolding measured_by
returns c =
    ap accepted c.sums_of.ensures
    ∙ sym
    (passes _ _ _ _ _ (ap not (eq-eqb _ _ c.if-readings-rows.false))
    ∙ passes _ _ _ _ _ (sym c.over_bright.ensures ∙ c.if-over_bright.false)
    ∙ ends _ _)
