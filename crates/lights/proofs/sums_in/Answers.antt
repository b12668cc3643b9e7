-- The constants are the built-in tables. Assumes nothing.
use Rattle.std.proofs.Common.{List, ℕ, sym, ap, subst, ◌∙◌}
use Rattle.cie.specs.Tables.{observer_x, observer_y, observer_z}
use Rattle.cie.specs.Sums.{sums_of}
use Rattle.lights.specs.Lights.{Whole, tables_at}
use Rattle.lights.proofs.LightRows.{whole_in}
use Rattle.lights.proofs.sums_in.Goals as goal

pub invariant_of-tables : goal.invariant_of-tables
unfolding observer_x observer_y observer_z
invariant_of-tables c =
    record { whole = subst (λ (l : List ℕ). Whole l observer_x observer_y observer_z) (sym c.illuminant_of.ensures) (whole_in c.args.light) }

pub returns : goal.returns
unfolding observer_x observer_y observer_z
returns c =
    let a = c.args in
    c.sums_by.ensures
    ∙ ap (λ (l : List ℕ). sums_of (tables_at a.spacing l observer_x observer_y observer_z) a.readings.now) c.illuminant_of.ensures
