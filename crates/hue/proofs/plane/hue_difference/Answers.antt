-- `hue::plane::hue_difference` meets its contract: the root is below 2^31, and the sign is set on it. Assumes nothing.
use Rattle.std.proofs.Common.{ap, ◌∙◌}
use Rattle.wide.specs.Roots.{square_root}
use Rattle.signed.proofs.Signs.{negated_fits}
use Rattle.hue.proofs.Sizes.{root_small, negative_is, positive_is}
use Rattle.hue.proofs.plane.hue_difference.Goals as goal

pub overflow_cast-size : goal.overflow_cast-size
overflow_cast-size c =
    record { sfits = root_small c.requires.0 c.requires.1 (c.square_root-size.ensures ∙ ap square_root c.hue_square.ensures) }

pub overflow_sub-result : goal.overflow_sub-result
overflow_sub-result c =
    negated_fits _ (root_small c.requires.0 c.requires.1 (c.square_root-size.ensures ∙ ap square_root c.hue_square.ensures))

pub returns-then-is_negative : goal.returns-then-is_negative
returns-then-is_negative c =
    negative_is c.requires.0 c.requires.1 (c.square_root-size.ensures ∙ ap square_root c.hue_square.ensures)
    c.is_negative.ensures c.if-is_negative.true

pub returns-else-is_negative : goal.returns-else-is_negative
returns-else-is_negative c =
    positive_is c.requires.0 c.requires.1 (c.square_root-size.ensures ∙ ap square_root c.hue_square.ensures)
    c.is_negative.ensures c.if-is_negative.false
