-- What the search holds is what the rule holds after as many turns, and each turn uses one full comparison of the budget.
use Rattle.std.proofs.Common.{◌-◌}
use Rattle.conditions.specs.Lent.{conditions_lent}
use Rattle.conditions.specs.Measure.{colour_under}
use Rattle.nearest.proofs.Turns.{Looking}
use Rattle.book_search.specs.Shades.{book_beside}
use Rattle.book_search.proofs.comparing.searched.Given as goal

abbrev pub invariant-loop-i : goal.invariant-loop-i
invariant-loop-i l = Looking l.budget (book_beside (colour_under (conditions_lent l.lent)) l.lent.rows l.swatch l.book) l.search

abbrev pub decreases-loop-i : goal.decreases-loop-i
decreases-loop-i l = l.budget - l.search.count
