-- After eight turns the tallies are a report's.
use Rattle.std.proofs.Common.{◌≡◌, ap, ◌∙◌, arith, rules}
use Rattle.answers.specs.Answers.{answer_record}
use Rattle.answers.proofs.Laid.{report_begun, report_whole}
use Rattle.answers.proofs.report_words.Goals as goal

pub returns : goal.returns
unfolding answer_record
returns c =
    let sets = c.args.report.tallies in
    let all : c.loop-i.i ≡ 8 = omega arith in
    c.loop-i.invariant ∙ ap (report_begun sets) all ∙ report_whole sets (search rules)
