-- The set at the table's place is replaced by itself with one tally raised. Assumes nothing.
use Rattle.std.proofs.Common.{sym, ap, ◌∙◌, ◌-◌}
use Rattle.std.proofs.Math.ListN.{set}
use Rattle.tallies.specs.Tallies.{no_tallies, tallied_by}
use Rattle.tallies.proofs.ByTable.{table_from, at_place, set_place, none_changed}
use Rattle.tallies.proofs.TableTallies.tallied.Goals as goal

pub returns-then-not-is_table : goal.returns-then-not-is_table
returns-then-not-is_table c =
    sym (none_changed (tallied_by c.args.verdict) c.args.self.sets c.args.table c.requires.eight (sym c.is_table.ensures ∙ c.if-not-is_table.true))

pub raised-requires : goal.raised-requires
raised-requires c =
    rw (at_place no_tallies c.args.self.sets c.args.table (table_from _ (sym c.is_table.ensures ∙ c.if-not-is_table.false)))
    (c.requires.limit c.args.table)

pub returns : goal.returns
returns c =
    let from = table_from _ (sym c.is_table.ensures ∙ c.if-not-is_table.false) in
    let a = c.args in
    ap (set a.self.sets (a.table - 1)) (c.raised.ensures ∙ ap (tallied_by a.verdict) (at_place no_tallies a.self.sets a.table from))
    ∙ set_place (tallied_by a.verdict) no_tallies a.self.sets a.table from
