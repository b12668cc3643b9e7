-- One row more: the store at i is row 2 i of the table, which is row i of every second one. Assumes nothing.
use Rattle.std.proofs.Common.{ℕ, ◌+◌, arith, sym, ap, ◌∙◌, drop, set}
use Rattle.std.proofs.lemmas.List.{length-set}
use Rattle.std.proofs.Math.Seq.{sets}
use Rattle.stores.proofs.Runs.{run_more, run_ended}
use Rattle.cie.specs.Lights.{every_second}
use Rattle.cie.proofs.TableRows.{second_length, second_at, filled_stored}
use Rattle.cie.proofs.tables.every_second.Goals as goal

pub loop-i-preserved : goal.loop-i-preserved
loop-i-preserved c =
    let l = c.loop-i in
    let table = c.args.table.now in
    let rows = every_second table in
    let n = second_length table in
    record {
      whole = simp length-set l.invariant.whole;
      stored =
          ap (λ (k : ℕ). sets (set l.rows l.i k) (l.i + 1) (drop (l.i + 1) rows)) (sym (second_at table l.i))
          ∙ run_more l.rows rows l.i (omega (arith, n.0))
          ∙ l.invariant.stored;
    }

pub returns : goal.returns
returns c =
    let l = c.loop-i in
    let rows = every_second c.args.table.now in
    let n = second_length c.args.table.now in
    sym (run_ended l.rows rows l.i (omega (arith, n.1))) ∙ l.invariant.stored ∙ filled_stored rows (omega (arith, n.1))
