-- `cie::tables::every_second` meets its contract: the rows that are left, stored from here, are every second one. Assumes nothing.
use Rattle.std.proofs.Common.{◌≡◌, length}
use Rattle.std.proofs.Math.ListN.{drop, replicate}
use Rattle.std.proofs.Math.Seq.{sets}
use Rattle.cie.specs.Spacing.{most_rows}
use Rattle.cie.specs.Lights.{every_second}
use Rattle.cie.proofs.tables.every_second.Given as goal

abbrev pub invariant-loop-i : goal.invariant-loop-i
invariant-loop-i l =
    record {
      whole : length l.rows ≡ most_rows;
      stored : sets l.rows l.i (drop l.i (every_second l.table)) ≡ sets (replicate most_rows 0) 0 (every_second l.table);
    }
