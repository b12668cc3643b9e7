-- What is kept: the products that are left, stored from here, are all of them. Assumes nothing.
use Rattle.std.proofs.Common.{length, ◌≡◌, drop}
use Rattle.std.proofs.Math.ListN.{replicate}
use Rattle.std.proofs.lemmas.List.Edits.{sets}
use Rattle.cie.specs.Spacing.{most_rows}
use Rattle.conditions.specs.Weights.{products_of}
use Rattle.conditions.proofs.weights.weights_of.Given as goal

abbrev pub invariant-loop-i : goal.invariant-loop-i
invariant-loop-i l =
    (length l.weights ≡ most_rows)
    × (sets l.weights l.i (drop l.i (products_of l.illuminant l.column)) ≡ sets (replicate most_rows 0) 0 (products_of l.illuminant l.column))
