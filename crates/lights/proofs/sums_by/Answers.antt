-- The sums so far and the rows that are left make the whole, and a row at the spacing is a row of the table. Assumes nothing.
use Rattle.std.proofs.Common.{◌≡◌, ℕ, ◌*◌, ap, arith}
use Rattle.lights.specs.Lights.{stride_at}
use Rattle.lights.proofs.LightRows.{lit_none, lit_fits, lit_more, lit_all}
use Rattle.lights.proofs.sums_by.Goals as goal

-- the row that a program reads
row_is : (spacing i : ℕ) {stride : ℕ} → stride ≡ stride_at spacing → stride * i ≡ stride_at spacing * i
row_is spacing i e = ap (λ (k : ℕ). k * i) e

pub loop-i-init : goal.loop-i-init
loop-i-init c = lit_none c.args.spacing c.requires.0 c.requires.1 c.args.tables.whole

pub with_row-sums-requires : goal.with_row-sums-requires
with_row-sums-requires c =
    let p = c.requires in
    lit_fits c.args.spacing p.0 p.1 c.args.tables.whole c.loop-i.invariant (omega arith) (row_is c.args.spacing c.loop-i.i c.stride_at-stride.ensures)

pub loop-i-preserved : goal.loop-i-preserved
loop-i-preserved c =
    let p = c.requires in
    let e = row_is c.args.spacing c.loop-i.i c.stride_at-stride.ensures in
    lit_more c.args.spacing p.0 p.1 c.args.tables.whole c.loop-i.invariant (omega arith) e c.with_row-sums.ensures

pub returns : goal.returns
returns c = lit_all c.args.spacing c.requires.0 c.requires.1 c.args.tables.whole c.loop-i.invariant (omega arith)
