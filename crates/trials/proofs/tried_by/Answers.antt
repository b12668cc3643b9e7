-- What must stand is asked first; then the measuring answer says what the spectrum's checks found, and the two colours are judged.
use Rattle.std.proofs.Common.{◌≡◌, sym, ◌∙◌, arith}
use Rattle.std.proofs.lemmas.Result.{err_from_is_err_and}
use Rattle.causes.specs.declared.Cause.TheVariants.{NoTolerance}
use Rattle.cie.specs.Scales.{frame_limit}
use Rattle.conditions.proofs.Measuring.{measured_ready, measured_sized}
use Rattle.trials.proofs.Trying.{tried_fallen, tried_refused, tried_whole}
use Rattle.trials.proofs.tried_by.Goals as goal

pub returns-in_err-stands : goal.returns-in_err-stands
returns-in_err-stands c =
    let p = err_from_is_err_and c.from_residual.result c.from_residual.ensures.1 in
    rw (p.1, p.2) (sym (tried_fallen _ _ _ _ (sym c.in_err-stands.ensures)))

pub returns-in_default : goal.returns-in_default
returns-in_default c =
    sym (tried_refused _ _ _ _ (sym c.in_ok-stands.ensures) c.measure-measured.ensures c.unwrap_err.ensures)

pub colour_of-colour-requires : goal.colour_of-colour-requires
colour_of-colour-requires c =
    measured_ready _ c.args.lent.sound frame_limit (omega arith) _ c.measure-measured.ensures c.in-Ok.is

pub judge-judged-requires : goal.judge-judged-requires
judge-judged-requires c = (
  c.requires.standard,
  measured_sized _ c.args.lent.sound frame_limit (omega arith) _ c.measure-measured.ensures c.in-Ok.is c.colour_of-colour.ensures,
)

pub returns-in_err-judgement : goal.returns-in_err-judgement
returns-in_err-judgement c =
    let p = err_from_is_err_and c.from_residual-in_err-judgement.result c.from_residual-in_err-judgement.ensures.1 in
    let cause : c.in_err-judgement.field-0.0 ≡ NoTolerance = let e = rw c.in_err-judgement.ensures.ok_part at c.in_err-judgement.ensures.value in cc in
    rw (p.1, p.2, cause)
    (sym (tried_whole _ _ _ _ (sym c.in_ok-stands.ensures) c.measure-measured.ensures c.in-Ok.is c.colour_of-colour.ensures
    (sym c.in_err-judgement.ensures.ok_part ∙ c.judge-judged.ensures)))

pub returns : goal.returns
returns c =
    sym (tried_whole _ _ _ _ (sym c.in_ok-stands.ensures) c.measure-measured.ensures c.in-Ok.is c.colour_of-colour.ensures
    (sym c.in_ok-judgement.ensures.ok_part ∙ c.judge-judged.ensures))
