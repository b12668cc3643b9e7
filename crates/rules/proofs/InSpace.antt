-- The program judges an amount in the space of the call that set it, by the formulas of that space. Assumes nothing.
use mathlib.Core.Path.{◌≡◌, refl}
use mathlib.Core.Bool.{true}
use Prim.Native.Nat.{ℕ}
use Rattle.std.specs.Prelude.{Some}
use Rattle.cie.specs.declared.Colour.{Colour}
use Rattle.cie.specs.declared.Space.{Space}
use Rattle.cie.specs.declared.Space.TheVariants.{Cielab, Cieluv}
use Rattle.cie.specs.Verdict.{margin, verdict_of, difference as difference_in}
use Rattle.rules.specs.declared.Judgement.{Judgement}
use Rattle.rules.specs.Rules.{tolerance_of, has_tolerance, judged_by, space_of, units_of}

pub tolerant : (space : Space) (units : ℕ) → has_tolerance (Some (tolerance_of space units)) ≡ true
tolerant space units = refl

-- E in that space, and the verdict on it
pub record InSpace (space : Space) (units : ℕ) (p q : Colour) (j : Judgement) : Type 0 where
  pub in_space : space_of j.e ≡ space
  pub counted : units_of j.e ≡ difference_in space p q
  pub judged : j.verdict ≡ verdict_of (margin space) (difference_in space p q) units

pub judged_in : (space : Space) (units : ℕ) (p q : Colour) → InSpace space units p q (judged_by (tolerance_of space units) p q)
judged_in Cielab units p q = record { in_space = refl; counted = refl; judged = refl }
judged_in Cieluv units p q = record { in_space = refl; counted = refl; judged = refl }
