-- The largest of what is passed, and the readings that are left, have the largest of all.
use Rattle.std.proofs.Common.{◌≡◌, max, drop, fold}
use Rattle.cie.proofs.spectrum.largest.Given as goal

abbrev pub invariant-loop-i : goal.invariant-loop-i
invariant-loop-i l = fold max l.top (drop l.i l.readings) ≡ fold max 0 l.readings
