-- Every piece leaves a valid session.
use Rattle.session.specs.Served.{Valid}
use Rattle.replay.proofs.play_all.Given as goal

abbrev pub invariant-loop : goal.invariant-loop
invariant-loop g l = Valid l.session
