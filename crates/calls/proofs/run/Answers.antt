-- The answers to the calls that are left, stored from here, are those to the whole list.
use Rattle.std.proofs.Common.{refl, sym, ◌∙◌, ◌*◌, ◌-◌, length, arith}
use borrow.Rule.Slice.PartMut.{same_len_mid}
use Rattle.answers.specs.Answers.{answer_words}
use Rattle.calls.proofs.Turns.{along_start, along_next, along_end}
use Rattle.calls.proofs.Ends.{ran_short, ran_answered, after_short, after_answered}
use Rattle.calls.proofs.run.Goals as goal

pub returns-then-buffer-n-clause-result_value : goal.returns-then-buffer-n-clause-result_value
returns-then-buffer-n-clause-result_value c = sym (ran_short _ _ c.if-buffer-n.true)

pub returns-then-buffer-n-clause-buffer_after : goal.returns-then-buffer-n-clause-buffer_after
returns-then-buffer-n-clause-buffer_after c = sym (after_short _ _ _ c.if-buffer-n.true)

pub loop-i-init : goal.loop-i-init
loop-i-init c = record { same_length = refl; along = along_start _ _ _ c.fresh-session.ensures.0 c.fresh-session.ensures.1 }

pub loop-i-preserved : goal.loop-i-preserved
loop-i-preserved c =
    let l = c.loop-i in
    let to = l.i * answer_words in
    let k = length l.buffer - to in
    let w = c.write in record {
      same_length = same_len_mid to k l.buffer w.new.part w.auto.part ∙ l.invariant.same_length;
      along = along_next _ _ _ k w.new.part l.invariant.along c.loop-i-test.true c.call-served.ensures (omega arith) refl w.ensures;
    }

pub returns-clause-result_value : goal.returns-clause-result_value
returns-clause-result_value c = sym (ran_answered _ _ c.if-buffer-n.false)

pub returns-clause-buffer_after : goal.returns-clause-buffer_after
returns-clause-buffer_after c =
    let room = c.if-buffer-n.false in
    along_end _ _ _ c.loop-i.invariant.along (omega arith) room ∙ sym (after_answered _ _ _ room)
