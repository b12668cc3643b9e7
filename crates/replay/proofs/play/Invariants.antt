-- Every line's answer leaves a valid session.
use Rattle.session.specs.Served.{Valid}
use Rattle.replay.proofs.play.Given as goal

abbrev pub invariant-loop-byte : goal.invariant-loop-byte
invariant-loop-byte g l = Valid l.session
