-- `probe::probe_trials` meets its contract: a session is made ready, the trials are made, and the report counts.
use Rattle.std.proofs.Common.{ap, ◌∙◌}
use Rattle.session.specs.Served.{Reply}
use Rattle.probe.proofs.Trials.{counted}
use Rattle.probe.proofs.probe_trials.Goals as goal

pub returns : goal.returns
returns c =
    let a = c.args in
    c.passed_in.ensures
    ∙ counted a.light a.standard.now a.trial.now a.amount a.count c.session_for-ready.ensures.0 c.after_trials-last.ensures.0
    (ap (λ (x : Reply). x.outcome) c.report.ensures.reply)
