-- With zeros for E and the verdict, what is laid out after a colour is what pads it.
use Rattle.std.proofs.Common.{◌∙◌}
use Rattle.answers.proofs.Laid.{colour_alone}
use Rattle.answers.proofs.coloured_words.Goals as goal

pub returns : goal.returns
returns c = c.colour_words.ensures ∙ colour_alone c.args.colour
