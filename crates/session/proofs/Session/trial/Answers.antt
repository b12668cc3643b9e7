-- What the trial's working out found is the reply, and the tallies are those after it.
use Rattle.std.proofs.Common.{rules}
use Rattle.session.proofs.Valid.{meets}
use Rattle.session.proofs.Replies.{trial_answered, trial_left}
use Rattle.session.proofs.Session.trial.Goals as goal

pub returns : goal.returns
returns c =
    let a = c.args in
    let tried = c.tried_under-tried in
    let found = tried.ensures in
    let told = trial_answered _ tried.result.found c.map.result c.map.ensures.cases (λ t r h. search rules) in
    meets _ _ _ c.requires (trial_left a.self c.standing.ensures a.table a.readings.now found.found_value found.tallies_value told)
