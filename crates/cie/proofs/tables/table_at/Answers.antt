-- `cie::tables::table_at` meets its contract: the test decides, and a table at 5 nm is whole. Assumes nothing.
use Rattle.std.proofs.Common.{sym}
use Rattle.std.proofs.lemmas.Bool.{eq-eqb, ne_eqb}
use Rattle.cie.specs.Lights.{table_at}
use Rattle.cie.proofs.TableRows.{filled_whole}
use Rattle.cie.proofs.tables.table_at.Goals as goal

pub returns-then-spacing-eq-COARSE_SPACING : goal.returns-then-spacing-eq-COARSE_SPACING
unfolding table_at
returns-then-spacing-eq-COARSE_SPACING c = rw (eq-eqb _ _ c.if-spacing-eq-COARSE_SPACING.true) c.every_second.ensures

pub returns-else-spacing-eq-COARSE_SPACING : goal.returns-else-spacing-eq-COARSE_SPACING
unfolding table_at
returns-else-spacing-eq-COARSE_SPACING c = rw (ne_eqb _ _ c.if-spacing-eq-COARSE_SPACING.false) (sym (filled_whole _ c.requires))
