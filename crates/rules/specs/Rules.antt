-- What the program decides by, in its own types: the tolerance, the standard, the judgement of a trial. The ledger has none of it.
-- Assumes nothing.
use Rattle.std.specs.Prelude.{Bool, ℕ, Option, None, Some}
use Rattle.std.specs.Option.{is_some}
use Rattle.cie.specs.declared.Colour.{Colour}
use Rattle.cie.specs.declared.Space.{Space}
use Rattle.cie.specs.declared.Space.TheVariants.{Cielab, Cieluv}
use Rattle.cie.specs.Colour.{lab_difference, luv_difference}
use Rattle.cie.specs.Sizes.{Sized}
use Rattle.cie.specs.Verdict.{margin, verdict_of}
use Rattle.rules.specs.declared.Judgement.{Judgement}
use Rattle.rules.specs.declared.Units.{Units}
use Rattle.rules.specs.declared.Units.TheVariants.{Lab, Luv}

-- the amount in the unit of its space
abbrev pub tolerance_of : Space → ℕ → Units
tolerance_of Cielab amount = Lab (record { 0 = amount })
tolerance_of Cieluv amount = Luv (record { 0 = amount })

abbrev pub has_tolerance : Option Units → Bool
has_tolerance tolerance = is_some tolerance

abbrev pub has_standard : Option Colour → Bool
has_standard standard = is_some standard

abbrev pub SizedStandard : Option Colour → Type 0
SizedStandard None = Unit
SizedStandard (Some colour) = Sized colour

-- an amount, by its space and its count
abbrev pub space_of : Units → Space
space_of (Lab e) = Cielab
space_of (Luv e) = Cieluv

abbrev pub units_of : Units → ℕ
units_of (Lab e) = e.0
units_of (Luv e) = e.0

-- E in the tolerance's space and the verdict on it, of the standard's colour p and the trial's q
abbrev pub judged_by : Units → Colour → Colour → Judgement
judged_by (Lab t) p q = record { e = Lab (lab_difference p q); verdict = verdict_of (margin Cielab) (lab_difference p q).0 t.0 }
judged_by (Luv t) p q = record { e = Luv (luv_difference p q); verdict = verdict_of (margin Cieluv) (luv_difference p q).0 t.0 }

-- none where there is no standard or no tolerance
abbrev pub judged_of : Option Colour → Option Units → Colour → Option Judgement
judged_of None t q = None
judged_of (Some p) None q = None
judged_of (Some p) (Some t) q = Some (judged_by t p q)
