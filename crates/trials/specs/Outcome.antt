-- What a trial answers, in the paper's words: no type that the program decides by. The ledger and the program answer the same. Assumes nothing.
use Rattle.std.specs.Prelude.{ℕ}
use Rattle.cie.specs.declared.Colour.{Colour}
use Rattle.cie.specs.declared.Space.{Space}
use Rattle.cie.specs.declared.Verdict.{Verdict}

-- "an amount in one of the two spaces": a tolerance, or E
pub record Amount : Type 0 where
  pub space : Space
  pub units : ℕ

-- "a trial's colour, E and verdict"
pub record TrialOutcome : Type 0 where
  pub colour : Colour
  pub e : Amount
  pub verdict : Verdict
