-- The verdicts are right of the exact difference, in both spaces and for every tolerance. Assumes nothing.
use Rattle.cie.specs.declared.Space.{Space}
use Rattle.cie.specs.declared.Space.TheVariants.{Cielab, Cieluv}
use Rattle.cie.specs.Colour.{colour_of}
use Rattle.cie.specs.Exact.{squares_at}
use Rattle.cie.specs.Verdict.{margin, verdict_of, difference, Told, VerdictsRight}
use Rattle.cie.proofs.RuleCielab.{cielab_right}
use Rattle.cie.proofs.RuleCieluv.{cieluv_right}

pub verdicts_right : VerdictsRight
verdicts_right =
    record {
      right =
          λ k w s t T W S S'. elim k
          as (λ (v : Space). Told v (squares_at v w s t) T (verdict_of (margin v) (difference v (colour_of w s) (colour_of w t)) T))
          [ Cielab ↦ cielab_right w s t W T | Cieluv ↦ cieluv_right w s t W S S' T ];
    }
