-- The buffer's check comes last, and the answer is stored only after it. Assumes nothing.
use Rattle.std.proofs.Common.{◌∙◌}
use Rattle.host.proofs.Answers.{found_small, no_colour, no_room, written}
use Rattle.host.proofs.shade_colour.Goals as goal

pub returns-in-Err-clause-value : goal.returns-in-Err-clause-value
returns-in-Err-clause-value c =
    let a = c.args in
    c.from.ensures ∙ (no_colour a.light a.spectrum.now a.out.now _ c.in-Err.ensures).0

pub returns-in-Err-clause-out_after : goal.returns-in-Err-clause-out_after
returns-in-Err-clause-out_after c = let a = c.args in (no_colour a.light a.spectrum.now a.out.now _ c.in-Err.ensures).1

pub returns-in-Ok-clause-value : goal.returns-in-Ok-clause-value
returns-in-Ok-clause-value c =
    let a = c.args in
    c.from-in-Ok.ensures ∙ (no_room a.light a.spectrum.now a.out.now _ c.in-Ok.ensures c.if-out-lt-ANSWER.true).0

pub returns-in-Ok-clause-out_after : goal.returns-in-Ok-clause-out_after
returns-in-Ok-clause-out_after c =
    let a = c.args in
    (no_room a.light a.spectrum.now a.out.now _ c.in-Ok.ensures c.if-out-lt-ANSWER.true).1

pub put_answer-requires : goal.put_answer-requires
put_answer-requires c = (found_small c.args.light c.args.spectrum.now _ c.in-Ok.ensures, c.if-out-lt-ANSWER.false)

pub returns-in-Ok-2-clause-value : goal.returns-in-Ok-2-clause-value
returns-in-Ok-2-clause-value c =
    let a = c.args in
    (written a.light a.spectrum.now a.out.now _ c.in-Ok.ensures c.if-out-lt-ANSWER.false c.put_answer.ensures).0

pub returns-in-Ok-2-clause-out_after : goal.returns-in-Ok-2-clause-out_after
returns-in-Ok-2-clause-out_after c =
    let a = c.args in
    (written a.light a.spectrum.now a.out.now _ c.in-Ok.ensures c.if-out-lt-ANSWER.false c.put_answer.ensures).1
