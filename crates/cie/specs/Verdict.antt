-- Document 01, "Session": the verdict's rule, and demand 3's claim about it. Assumes nothing.
use Rattle.std.specs.Prelude.{cond, ℕ, ◌+◌, leb}
use Rattle.cie.specs.declared.Sums.{Sums}
use Rattle.cie.specs.declared.Colour.{Colour}
use Rattle.cie.specs.declared.Space.{Space}
use Rattle.cie.specs.declared.Space.TheVariants.{Cielab, Cieluv}
use Rattle.cie.specs.declared.Verdict.{Verdict}
use Rattle.cie.specs.declared.Verdict.TheVariants.{Pass, Fail, OnTheLine}
use Rattle.cie.specs.Sums.{White, AtMostTwice}
use Rattle.cie.specs.Colour.{colour_of, lab_difference, luv_difference}
use Rattle.cie.specs.Exact.{allowance, guard, squares_at, AtMost, Exceeds, LessThanFrom}

-- g: "g = 12 in CIELAB, 114 in CIELUV"
abbrev pub margin : Space → ℕ
margin Cielab = 12
margin Cieluv = 114

-- "pass when E + g ≤ T, fail when E ≥ T + g, else on the line"
abbrev pub verdict_of : ℕ → ℕ → ℕ → Verdict
verdict_of g E T = cond (leb (E + g) T) Pass (cond (leb (T + g) E) Fail OnTheLine)

-- E in a space, as a count
abbrev pub difference : Space → Colour → Colour → ℕ
difference Cielab p q = (lab_difference p q).0
difference Cieluv p q = (luv_difference p q).0

-- "no pass exceeds the tolerance, no fail meets it, every 'on the line' is within the guard": of an exact difference with squares Q
abbrev pub Told : Space → (ℕ → ℕ) → ℕ → Verdict → Type 0
Told k Q T Pass = AtMost (allowance k) Q T
Told k Q T Fail = Exceeds (allowance k) Q T
Told k Q T OnTheLine = LessThanFrom (allowance k) (guard k) Q T

-- what the rule is owed: the verdict on two samples under an accepted white is right of their exact difference
pub record VerdictsRight : Type 0 where
  pub right : (k : Space) (w s t : Sums) (T : ℕ) → White w → AtMostTwice w s → AtMostTwice w t →
      Told k (squares_at k w s t) T (verdict_of (margin k) (difference k (colour_of w s) (colour_of w t)) T)
