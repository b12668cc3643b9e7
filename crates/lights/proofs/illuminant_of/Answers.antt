-- The test decides, and the constants are the built-in tables. Assumes nothing.
use Rattle.std.proofs.Common.{eq-eqb, ne_eqb}
use Rattle.cie.specs.Tables.{illuminant_a, illuminant_d65}
use Rattle.lights.proofs.illuminant_of.Goals as goal

pub returns-then-light-eq-LIGHT_A : goal.returns-then-light-eq-LIGHT_A
unfolding illuminant_a
returns-then-light-eq-LIGHT_A c = rw (eq-eqb _ _ c.if-light-eq-LIGHT_A.true)

pub returns-else-light-eq-LIGHT_A : goal.returns-else-light-eq-LIGHT_A
unfolding illuminant_d65
returns-else-light-eq-LIGHT_A c = rw (ne_eqb _ _ c.if-light-eq-LIGHT_A.false)
