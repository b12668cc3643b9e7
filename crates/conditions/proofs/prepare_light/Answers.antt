-- The light's own tables pass, so the opening has no check but the spacing's and the light's. Assumes nothing.
use Rattle.std.specs.Prelude.{Result}
use Rattle.causes.specs.declared.Cause.{Cause}
use Rattle.conditions.specs.declared.Conditions.{Conditions}
use Rattle.std.proofs.Common.{◌≡◌, false, List, ℕ, take, rules, sym, ◌∙◌, arith}
use Rattle.causes.proofs.Checks.{fires}
use Rattle.cie.specs.Spacing.{unknown_spacing, rows_at, filled}
use Rattle.cie.specs.Tables.{illuminant_a, illuminant_d65}
use Rattle.cie.specs.Lights.{light_a, light_d65, table_at, observed}
use Rattle.conditions.specs.Conditions.{prepared_of, prepared_light, Prepares}
use Rattle.conditions.proofs.Opening.{light_a_lem, light_d65_lem, light_none}
use Rattle.conditions.proofs.Answers.{prepares_as, refused_as}
use Rattle.conditions.proofs.prepare_light.Goals as goal

-- a light that was told, from what its illuminant prepares
module _ (light spacing : ℕ) (array : List ℕ) (p : Result Conditions Cause) (known : false ≡ unknown_spacing spacing)
    (h : Prepares (prepared_of (observed spacing (take (rows_at spacing) array))) p) where
  told_a : light ≡ light_a → array ≡ filled (table_at spacing illuminant_a) → Prepares (prepared_light light spacing) p
  told_a e f = prepares_as (light_a_lem _ _ (sym known) e f) h

  told_d65 : (light ≡ light_a → ⊥) → light ≡ light_d65 → array ≡ filled (table_at spacing illuminant_d65) → Prepares (prepared_light light spacing) p
  told_d65 n e f = prepares_as (light_d65_lem _ _ (sym known) n e f) h

pub returns-then-is_unknown : goal.returns-then-is_unknown
returns-then-is_unknown c = refused_as _ (fires _ _ _ _ _ (sym c.is_unknown.ensures ∙ c.if-is_unknown.true))

pub returns-in-1 : goal.returns-in-1
returns-in-1 c = search (rules, told_a)

pub returns-in-2 : goal.returns-in-2
returns-in-2 c = search (rules, told_d65)

pub returns-in_default : goal.returns-in_default
returns-in_default c =
    let known = sym c.is_unknown.ensures ∙ c.if-is_unknown.false in
    let n : c.args.light ≡ light_a → ⊥ = λ e. omega (arith, e) in
    let m : c.args.light ≡ light_d65 → ⊥ = λ e. omega (arith, e) in
    refused_as _ (light_none _ c.args.spacing known n m)
