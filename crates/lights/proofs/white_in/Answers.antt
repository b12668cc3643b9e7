-- The light and the spacing decide, and the four whites are evaluated. Assumes nothing.
use Rattle.std.proofs.Common.{◌≡◌, eq-eqb, ne_eqb, arith}
use Rattle.cie.specs.Spacing.{coarse_spacing}
use Rattle.cie.specs.Tables.{observer_x, observer_y, observer_z, illuminant_a, illuminant_d65}
use Rattle.cie.specs.Sums.{row_sum, sums_of, white_of}
use Rattle.cie.specs.Lights.{light_a, every_second}
use Rattle.lights.proofs.LightWhites.{white_by}
use Rattle.lights.proofs.white_in.Goals as goal

pub returns-in-1-eq10 : goal.returns-in-1-eq10
unfolding white_of sums_of row_sum every_second illuminant_a observer_x observer_y observer_z
returns-in-1-eq10 c = white_by c.args.light c.args.spacing (eq-eqb _ _ c.in-1-eq10.is-0) (eq-eqb _ _ c.in-1-eq10.is-1)

pub returns-in-1-default : goal.returns-in-1-default
unfolding white_of sums_of row_sum illuminant_a observer_x observer_y observer_z
returns-in-1-default c =
    let n : c.args.spacing ≡ coarse_spacing → ⊥ = λ e. omega (arith, e) in
    white_by c.args.light c.args.spacing (eq-eqb _ _ c.in-1-default.is-0) (ne_eqb _ _ n)

pub returns-in_default-eq10 : goal.returns-in_default-eq10
unfolding white_of sums_of row_sum every_second illuminant_d65 observer_x observer_y observer_z
returns-in_default-eq10 c =
    let n : c.args.light ≡ light_a → ⊥ = λ e. omega (arith, e) in
    white_by c.args.light c.args.spacing (ne_eqb _ _ n) (eq-eqb _ _ c.in_default-eq10.is-1)

pub returns-in_default : goal.returns-in_default
unfolding white_of sums_of row_sum illuminant_d65 observer_x observer_y observer_z
returns-in_default c =
    let n : c.args.light ≡ light_a → ⊥ = λ e. omega (arith, e) in
    let m : c.args.spacing ≡ coarse_spacing → ⊥ = λ e. omega (arith, e) in
    white_by c.args.light c.args.spacing (ne_eqb _ _ n) (ne_eqb _ _ m)
