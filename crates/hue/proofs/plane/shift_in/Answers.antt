-- `hue::plane::shift_in` meets its contract: both differences fit 32 bits. Assumes nothing.
use Rattle.std.proofs.Common.{ap, ◌∙◌}
use Rattle.signed.proofs.Passed.{passed}
use Rattle.hue.specs.Hue.{chroma_difference}
use Rattle.hue.proofs.Sizes.{chroma_survives, hue_survives}
use Rattle.hue.proofs.plane.shift_in.Goals as goal

pub returns : goal.returns
unfolding chroma_difference
returns c = (
  ap passed c.minus.ensures ∙ chroma_survives c.requires.0 c.requires.1,
  ap passed c.hue_difference.ensures ∙ hue_survives c.requires.0 c.requires.1,
)
