-- Conditions that are lent, as the conditions that they are. Assumes nothing.
use Rattle.conditions.specs.declared.Conditions.{Conditions}
use Rattle.conditions.specs.declared.lent.Lent.{Lent}
use Rattle.conditions.specs.Conditions.{conditions_by}

abbrev pub conditions_lent : Lent → Conditions
conditions_lent l = conditions_by l.rows l.weights.x.now l.weights.y.now l.weights.z.now l.white
