-- The tallies of the tables so far stand behind the kind.
use Rattle.std.proofs.Common.{◌≡◌}
use Rattle.answers.proofs.Laid.{report_begun}
use Rattle.answers.proofs.report_words.Given as goal

abbrev pub invariant-loop-i : goal.invariant-loop-i
invariant-loop-i l = l.words ≡ report_begun l.set-items l.i
