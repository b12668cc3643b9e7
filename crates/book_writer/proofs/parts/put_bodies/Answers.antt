-- `book_writer::parts::put_bodies` meets its contract: the bodies from the i-th on, stored from here, are those of all. Assumes nothing.
use Rattle.std.proofs.Common.{ℕ, ◌+◌, ◌-◌, ◌*◌, ◌≡◌, ◌≤◌, ◌∙◌, length, refl, sym, ap, arith, length-take, length-drop}
use borrow.Rule.Slice.PartMut.{same_len_mid}
use Rattle.endian.proofs.Words.{bytes_of-stored}
use Rattle.book.specs.Book.{bodies_at}
use Rattle.book.proofs.Sizes.{readings_within, body_within}
use Rattle.book_writer.proofs.Stored.{bodies_store}
use Rattle.book_writer.proofs.parts.put_bodies.Goals as goal

pub slice_bounds-write_words-count : goal.slice_bounds-write_words-count
slice_bounds-write_words-count c =
    omega (arith, body_within c.args.rows c.loop-i.i c.args.n c.loop-i-test.true c.body_length-body.ensures)

pub slice_bounds-write_words-start : goal.slice_bounds-write_words-start
slice_bounds-write_words-start c =
    omega (arith, body_within c.args.rows c.loop-i.i c.args.n c.loop-i-test.true c.body_length-body.ensures)

pub write_words-requires : goal.write_words-requires
write_words-requires c =
    let a = c.args in
    let l = c.loop-i in
    let source = readings_within a.rows l.i a.n c.loop-i-test.true in
    let target = body_within a.rows l.i a.n c.loop-i-test.true c.body_length-body.ensures in
    simp (length-take, length-drop) (omega arith)

pub loop-i-preserved : goal.loop-i-preserved
loop-i-preserved c =
    let l = c.loop-i in
    let a = c.args in
    let b = c.body_length-body.result in
    let e = c.write_words in
    let at = bodies_at a.n + b * l.i in
    let from = a.rows * l.i in
    let rest = length l.buffer - at in
    let source : from + a.rows ≤ length a.spectra.now = omega (arith, readings_within a.rows l.i a.n c.loop-i-test.true) in
    let target : at + b ≤ length l.buffer =
    omega (arith, body_within a.rows l.i a.n c.loop-i-test.true c.body_length-body.ensures) in (
      same_len_mid at rest l.buffer e.new.part e.auto.part ∙ l.invariant.0,
      bodies_store a.rows l.buffer at from (from + a.rows - from) rest a.spectra.now e.new.part
          (omega arith) source (omega arith) refl e.ensures (omega (arith, c.body_length-body.ensures)) (omega arith) ∙ l.invariant.1,
    )

pub returns : goal.returns
returns c =
    let l = c.loop-i in
    let a = c.args in
    let done : l.i ≡ a.n = omega arith in
    sym (bytes_of-stored l.buffer (bodies_at a.n + c.body_length-body.result * l.i) (a.rows * l.i) a.spectra.now
    (omega (arith, ap (λ (k : ℕ). a.rows * k) done))) ∙ l.invariant.1
