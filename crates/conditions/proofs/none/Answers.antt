-- No weight, and a white of three equal sums. Assumes nothing.
use Rattle.std.proofs.Common.{sym, ap, subst}
use Rattle.std.proofs.Math.ListN.{replicate}
use Rattle.cie.specs.Spacing.{most_rows}
use Rattle.colour.specs.declared.white.WhitePoint.{WhitePoint}
use Rattle.conditions.specs.declared.Conditions.{Conditions}
use Rattle.conditions.specs.Conditions.{no_conditions, Sound}
use Rattle.conditions.proofs.Sound.{sound_none}
use Rattle.conditions.proofs.none.Goals as goal

abbrev beside : WhitePoint → Conditions
beside w = record { rows = 0; x = replicate most_rows 0; y = replicate most_rows 0; z = replicate most_rows 0; white = w }

pub returns : goal.returns
unfolding no_conditions
returns c = let e = ap beside c.white_point-white.ensures in (e, subst Sound (sym e) sound_none)
