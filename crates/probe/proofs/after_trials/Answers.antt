-- One trial, and then the others; after the last turn none is left.
use Rattle.std.proofs.Common.{◌≡◌, ◌+◌, ◌-◌, sym, ap, ◌∙◌, arith}
use Rattle.probe.specs.Probe.{after_trials}
use Rattle.probe.proofs.Trials.{left, turn, none}
use Rattle.probe.proofs.after_trials.Goals as goal

pub loop-preserved : goal.loop-preserved
loop-preserved c =
    let l = c.loop in
    let m = c.trial.ensures in
    let readings = c.args.readings.now in
    let fewer : c.args.count - (l.counter + 1) ≡ (c.args.count - l.counter) - 1 = omega arith in (
      ap (after_trials c.trial.result.session readings) fewer ∙ turn l.current readings (c.args.count - l.counter) (omega arith) (left m)
          ∙ l.invariant.0,
      m.valid,
    )

pub returns : goal.returns
returns c =
    let l = c.loop in
    (sym (none l.current c.args.readings.now (c.args.count - l.counter) (omega arith)) ∙ l.invariant.0, l.invariant.1)
