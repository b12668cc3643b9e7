-- `colour::steps::step` meets its contract: it takes the piece of f that the limit says, at the scale of a step. Assumes nothing.
use Rattle.cie.specs.Colour.{step_scale, step_at}
use Rattle.colour.proofs.Limit.{f_dim, f_bright}
use Rattle.colour.proofs.steps.step.Goals as goal

pub returns-then-is_dim : goal.returns-then-is_dim
unfolding step_at
returns-then-is_dim c = f_dim step_scale c.args.n c.args.d _ c.is_dim.ensures c.if-is_dim.true _ c.straight.ensures

pub returns-else-is_dim : goal.returns-else-is_dim
unfolding step_at
returns-else-is_dim c = f_bright step_scale c.args.n c.args.d _ c.is_dim.ensures c.if-is_dim.false _ c.cube_root_near.ensures
