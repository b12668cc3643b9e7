-- `probe::after_trials` meets its contract: at each turn the trials that are left, made from here, give the session after all of them.
use Rattle.std.proofs.Common.{◌≡◌, ◌-◌}
use Rattle.session.specs.Served.{Valid}
use Rattle.probe.specs.Probe.{after_trials}
use Rattle.probe.proofs.after_trials.Given as goal

abbrev pub invariant-loop : goal.invariant-loop
invariant-loop l =
    (after_trials l.current l.readings (l.count - l.counter) ≡ after_trials l.initial.current l.readings l.count) × Valid l.current
