-- `colour::axes::ab_of` meets its contract: no step is above 1,259,921, so its multiples fit. Assumes nothing.
use Rattle.std.proofs.Common.{arith, rules, w32, ◌∙◌}
use mir.Facts.{to_z-of_z}
use Rattle.cie.specs.Colour.{a_factor, b_factor, a_at, b_at}
use Rattle.cie.proofs.Steps.{step_size}
use Rattle.cie.proofs.Whites.{white_x, white_y, white_z}
use Rattle.colour.proofs.Planes.{multiple_is}
use Rattle.colour.proofs.axes.ab_of.Goals as goal

pub multiple-requires : goal.multiple-requires
multiple-requires c =
    let s = c.args.s in
    let w = c.args.w in
    omega (arith, step_size s.x w.x (white_x c.requires.0) c.requires.1.x, step_size s.y w.y (white_y c.requires.0) c.requires.1.y)

pub multiple-requires-2 : goal.multiple-requires-2
multiple-requires-2 c =
    let s = c.args.s in
    let w = c.args.w in
    omega (arith, step_size s.y w.y (white_y c.requires.0) c.requires.1.y, step_size s.z w.z (white_z c.requires.0) c.requires.1.z)

pub returns : goal.returns
unfolding a_at b_at
returns c = (
  to_z-of_z {w = w32} (search rules) ∙ multiple_is a_factor _ _ _ _ _ c.step-x.ensures c.requires.2 c.multiple.ensures,
  to_z-of_z {w = w32} (search rules) ∙ multiple_is b_factor _ _ _ _ _ c.requires.2 c.step-z.ensures c.multiple-2.ensures,
)
