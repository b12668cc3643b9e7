-- `book::reader::any_over_bright` meets its contract: the bodies from the i-th on decide as all do. Assumes nothing.
use Rattle.std.proofs.Common.{◌∙◌, refl, sym, arith}
use Rattle.cie.specs.Scales.{reader_limit}
use Rattle.book.proofs.Tests.{bodies_all, bodies_on, bodies_off, bodies_end}
use Rattle.book.proofs.reader.any_over_bright.Goals as goal

pub loop-i-init : goal.loop-i-init
loop-i-init c = sym (bodies_all reader_limit c.args.rows c.args.s.now c.args.n)

pub returns-then-body_over_bright : goal.returns-then-body_over_bright
returns-then-body_over_bright c =
    bodies_off reader_limit c.args.rows c.args.s.now c.args.n c.loop-i.i (omega arith) c.body_length-body.ensures c.if-body_over_bright.ensures refl
    ∙ c.loop-i.invariant

pub loop-i-preserved : goal.loop-i-preserved
loop-i-preserved c =
    bodies_on reader_limit c.args.rows c.args.s.now c.args.n c.loop-i.i (omega arith) c.body_length-body.ensures c.if-body_over_bright.ensures refl
    ∙ c.loop-i.invariant

pub returns : goal.returns
returns c = bodies_end reader_limit c.args.rows c.args.s.now c.args.n c.loop-i.i (omega arith) ∙ c.loop-i.invariant
