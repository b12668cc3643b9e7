-- `colour::steps::lightness_of` meets its contract: both are f at their scales, by the piece that the limit says, and 1,160,000 × f is at least
-- 160,000. Assumes nothing.
use Rattle.std.proofs.Common.{ℕ, ◌*◌, ◌-◌, ap}
use Rattle.cie.specs.Colour.{step_scale, lightness_scale, gain, offset, step_at, lightness_at}
use Rattle.cie.proofs.Steps.{no_loss}
use Rattle.colour.proofs.Limit.{f_dim, f_bright}
use Rattle.colour.proofs.steps.lightness_of.Goals as goal

abbrev scale : ℕ
scale = lightness_scale * gain

pub returns-then-is_dim : goal.returns-then-is_dim
unfolding step_at lightness_at
returns-then-is_dim c =
    let dim = f_dim scale c.args.n c.args.d _ c.is_dim.ensures c.if-is_dim.true _ c.straight-then-is_dim.ensures in (
      f_dim step_scale c.args.n c.args.d _ c.is_dim.ensures c.if-is_dim.true _ c.straight.ensures,
      ap (λ (x : ℕ). x - lightness_scale * offset) dim,
    )

pub overflow_sub-result-2 : goal.overflow_sub-result-2
overflow_sub-result-2 c =
    let above = f_bright scale c.args.n c.args.d _ c.is_dim.ensures c.if-is_dim.false _ c.cube_root_near-2.ensures in
    rw above (no_loss 1 c.args.n c.args.d c.requires.0)

pub returns : goal.returns
unfolding step_at lightness_at
returns c =
    let above = f_bright scale c.args.n c.args.d _ c.is_dim.ensures c.if-is_dim.false _ c.cube_root_near-2.ensures in (
      f_bright step_scale c.args.n c.args.d _ c.is_dim.ensures c.if-is_dim.false _ c.cube_root_near.ensures,
      ap (λ (x : ℕ). x - lightness_scale * offset) above,
    )
