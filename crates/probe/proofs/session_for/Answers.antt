-- `probe::session_for` meets its contract: three calls, each with the session that the one before it left.
use Rattle.probe.proofs.Trials.{left, ready}
use Rattle.probe.proofs.session_for.Goals as goal

pub returns : goal.returns
returns c = (
  ready c.args.light c.args.standard.now c.args.amount c.fresh.ensures.0
      (left c.open_light.ensures) (left c.set_standard.ensures) (left c.set_tolerance.ensures),
  c.set_tolerance.ensures.valid,
)
