-- The products that are left, stored from here, are all of them. Assumes nothing.
use Rattle.std.proofs.Common.{ℕ, ◌+◌, sym, ap, ◌∙◌, drop, arith, length-set}
use Rattle.std.proofs.Math.ListN.{set}
use Rattle.std.proofs.lemmas.List.Edits.{sets}
use Rattle.stores.proofs.Runs.{run_more, run_ended}
use Rattle.cie.proofs.TableRows.{filled_stored}
use Rattle.conditions.specs.Weights.{products_of, weights_of}
use Rattle.conditions.proofs.Products.{products_length, products_at}
use Rattle.conditions.proofs.weights.weights_of.Goals as goal

pub loop-i-preserved : goal.loop-i-preserved
loop-i-preserved c =
    let l = c.loop-i in
    let x = c.args.illuminant.now in
    let y = c.args.column.now in
    let products = products_of x y in
    let n = products_length x y c.requires.1 in
    let at = products_at x y l.i (omega arith) (omega (arith, c.requires.1)) in (
      simp length-set l.invariant.0,
      ap (λ (k : ℕ). sets (set l.weights l.i k) (l.i + 1) (drop (l.i + 1) products)) (sym at)
          ∙ run_more l.weights products l.i (omega arith)
          ∙ l.invariant.1,
    )

pub returns : goal.returns
unfolding weights_of
returns c =
    let l = c.loop-i in
    let x = c.args.illuminant.now in
    let y = c.args.column.now in
    let n = products_length x y c.requires.1 in
    sym (run_ended l.weights (products_of x y) l.i (omega arith)) ∙ l.invariant.1 ∙ filled_stored (products_of x y) (omega (arith, n, c.requires.0))
