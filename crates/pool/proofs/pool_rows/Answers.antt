-- `pool::pool_rows` meets its contract: at the end every place holds its row's pooled reading.
use Rattle.std.proofs.Common.{◌∙◌, length, sym, arith}
use Rattle.std.proofs.lemmas.Grind.{same_number_lists}
use Rattle.pool.specs.Spots.{spots_of}
use Rattle.pool.proofs.Spots.{length-pooled, pooled_row}
use Rattle.pool.proofs.pool_rows.Goals as goal

pub returns : goal.returns
returns c =
    let rows = length c.args.places.now in
    let spots = spots_of rows c.args.count c.args.spots.now in
    same_number_lists _ _ (c.loop-row.auto.places ∙ sym (length-pooled spots 0 rows))
    (λ k h. c.loop-row.invariant k (omega arith) ∙ sym (pooled_row spots rows k (omega arith)))
